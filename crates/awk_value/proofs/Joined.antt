-- The entries of two maps, their keys as texts, as one list: looked up, set, added and taken out in either.
use Rattle.std.proofs.Common.{◌≡◌, ℕ, Bool, false, cond, List, [], ◌∷◌, ◌++◌, map, sym, ap, refl, subst, ◌∙◌, Some, append_assoc}
use Rattle.std.specs.Prelude.{bytes_eq}
use Rattle.std.specs.Map.{lookup, set_value, keys_of}
use Rattle.std.specs.List.{AllByRecursion}
use Rattle.std.specs.List.Sorted.{IsPermutation}
use Rattle.std.proofs.lemmas.List.Sorted.{IsPermutation-append_left, IsPermutation-append_right, IsPermutation-append_comm, IsPermutation-map, IsPermutation-trans, IsPermutation-middle}
use Rattle.awk_value.proofs.Rows.{map-push}
use Rattle.awk_value.specs.support.Entries.{joined}
use Rattle.awk_value.proofs.NamedKeys.{lookup-named, set_value-named}
use Rattle.awk_value.proofs.NumbersAndTexts.{not_bytes, lookup-left, lookup-right, set-left, set-right}

-- keys that all differ from a text, and a test that answers as the comparison with it does
module _ {K E : Type 0} (name : K → List ℕ) (Q : K → Type 0) (k : List ℕ) where
  pub apart : ((x : K) → Q x → k ≡ name x → ⊥) → (es : List (K × E)) → AllByRecursion Q (keys_of es)
      → AllByRecursion (λ (e : List ℕ × E). bytes_eq k e.0 ≡ false) (map (λ (e : K × E). (name e.0, e.1)) es)
  apart h [] a = tt
  apart h (e ∷ es) a = (not_bytes k (name e.0) (h e.0 a.0), apart h es a.1)

  module _ (test : K → Bool) (h : (x : K) → Q x → bytes_eq k (name x) ≡ test x) where
    pub lookup-agrees : (es : List (K × E)) → AllByRecursion Q (keys_of es)
        → lookup (λ x. bytes_eq k (name x)) es ≡ lookup test es
    lookup-agrees [] a = refl
    lookup-agrees (e ∷ es) a = (λ j. cond (h e.0 a.0 j) (Some e.1) (lookup-agrees es a.1 j))

    pub set-agrees : (w : E) (es : List (K × E)) → AllByRecursion Q (keys_of es)
        → set_value (λ x. bytes_eq k (name x)) es w ≡ set_value test es w
    set-agrees w [] a = refl
    set-agrees w (e ∷ es) a = (λ j. cond (h e.0 a.0 j) ((e.0, w) ∷ es) (e ∷ set-agrees w es a.1 j))

module _ {A B E : Type 0} (f : A → List ℕ) (g : B → List ℕ) (P : A → Type 0) (Q : B → Type 0) (xs : List (A × E)) (ys : List (B × E)) (left : AllByRecursion P (keys_of xs)) (right : AllByRecursion Q (keys_of ys)) (k : List ℕ) where
  module _ (test : A → Bool) (h : (x : A) → P x → bytes_eq k (f x) ≡ test x) (far : (y : B) → Q y → k ≡ g y → ⊥) where
    pub left-lookup : lookup (bytes_eq k) (joined f g xs ys) ≡ lookup test xs
    left-lookup =
        lookup-left (bytes_eq k) (map (λ e. (f e.0, e.1)) xs) (map (λ e. (g e.0, e.1)) ys) (apart g Q k far ys right)
        ∙ lookup-named xs f (bytes_eq k) ∙ lookup-agrees f P k test h xs left

    pub left-set : (w : E) → joined f g (set_value test xs w) ys ≡ set_value (bytes_eq k) (joined f g xs ys) w
    left-set w =
        sym (
        set-left (bytes_eq k) (map (λ e. (f e.0, e.1)) xs) (map (λ e. (g e.0, e.1)) ys) w (apart g Q k far ys right)
        ∙ ap (λ l. l ++ map (λ e. (g e.0, e.1)) ys) (set_value-named xs f (bytes_eq k) w ∙ ap (map (λ e. (f e.0, e.1))) (set-agrees f P k test h w xs left))
        )

  module _ (test : B → Bool) (h : (y : B) → Q y → bytes_eq k (g y) ≡ test y) (far : (x : A) → P x → k ≡ f x → ⊥) where
    pub right-lookup : lookup (bytes_eq k) (joined f g xs ys) ≡ lookup test ys
    right-lookup =
        lookup-right (bytes_eq k) (map (λ e. (f e.0, e.1)) xs) (map (λ e. (g e.0, e.1)) ys) (apart f P k far xs left)
        ∙ lookup-named ys g (bytes_eq k) ∙ lookup-agrees g Q k test h ys right

    pub right-set : (w : E) → joined f g xs (set_value test ys w) ≡ set_value (bytes_eq k) (joined f g xs ys) w
    right-set w =
        sym (
        set-right (bytes_eq k) (map (λ e. (f e.0, e.1)) xs) (map (λ e. (g e.0, e.1)) ys) w (apart f P k far xs left)
        ∙ ap (λ l. map (λ e. (f e.0, e.1)) xs ++ l) (set_value-named ys g (bytes_eq k) w ∙ ap (map (λ e. (g e.0, e.1))) (set-agrees g Q k test h w ys right))
        )

module _ {A B E : Type 0} (f : A → List ℕ) (g : B → List ℕ) (xs : List (A × E)) (ys : List (B × E)) where
  pub left-more : (a : A) (x : E)
      → IsPermutation (joined f g xs ys ++ (f a, x) ∷ []) (joined f g (xs ++ (a, x) ∷ []) ys)
  left-more a x =
      let us : List (List ℕ × E) = map (λ e. (f e.0, e.1)) xs in
      let vs : List (List ℕ × E) = map (λ e. (g e.0, e.1)) ys in
      let z : List (List ℕ × E) = (f a, x) ∷ [] in
      let new : us ++ (z ++ vs) ≡ joined f g (xs ++ (a, x) ∷ []) ys =
      sym (append_assoc us z vs) ∙ ap (λ l. l ++ vs) (sym (map-push (λ e. (f e.0, e.1)) xs (a, x))) in
      subst (λ l. IsPermutation l (joined f g (xs ++ (a, x) ∷ []) ys)) (sym (append_assoc us vs z))
      (subst (λ l. IsPermutation (us ++ (vs ++ z)) l) new (IsPermutation-append_right us (vs ++ z) (z ++ vs) (IsPermutation-append_comm vs z)))

  pub right-more : (b : B) (x : E) → joined f g xs (ys ++ (b, x) ∷ []) ≡ joined f g xs ys ++ (g b, x) ∷ []
  right-more b x =
      let us : List (List ℕ × E) = map (λ e. (f e.0, e.1)) xs in
      let vs : List (List ℕ × E) = map (λ e. (g e.0, e.1)) ys in
      ap (λ l. us ++ l) (map-push (λ e. (g e.0, e.1)) ys (b, x)) ∙ sym (append_assoc us vs ((g b, x) ∷ []))

  pub left-taken : (a : A) (x : E) (us : List (A × E)) → IsPermutation xs ((a, x) ∷ us)
      → IsPermutation (joined f g xs ys) ((f a, x) ∷ joined f g us ys)
  left-taken a x us m =
      IsPermutation-append_left (map (λ e. (g e.0, e.1)) ys) _ _ (IsPermutation-map (λ e. (f e.0, e.1)) xs ((a, x) ∷ us) m)

  pub right-taken : (b : B) (x : E) (us : List (B × E)) → IsPermutation ys ((b, x) ∷ us)
      → IsPermutation (joined f g xs ys) ((g b, x) ∷ joined f g xs us)
  right-taken b x us m =
      let ks : List (List ℕ × E) = map (λ e. (f e.0, e.1)) xs in
      let vs : List (List ℕ × E) = map (λ e. (g e.0, e.1)) us in
      IsPermutation-trans _ _ _ (IsPermutation-append_right ks _ _ (IsPermutation-map (λ e. (g e.0, e.1)) ys ((b, x) ∷ us) m))
      (IsPermutation-middle ks (g b, x) vs)
