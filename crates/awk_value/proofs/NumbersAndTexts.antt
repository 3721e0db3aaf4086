-- Two maps, one by numbers and one by texts, seen as one list of entries by texts.
use Rattle.std.proofs.Common.{◌≡◌, ℕ, ℤ, ◌<◌, ◌+◌, Bool, true, false, cond, List, [], ◌∷◌, ◌++◌, map, refl, sym, ap, subst, ◌∙◌, Some, None, append_assoc, nat_eq, length, length-append}
use Rattle.std.specs.Fmt.{signed_decimal}
use Rattle.std.specs.Prelude.{bytes_eq}
use Rattle.std.specs.Ordering.{int_eq}
use Rattle.std.specs.Map.{lookup, set_value, remove_entry, keys_of}
use Rattle.std.specs.List.{IsDistinct, AllByRecursion}
use Rattle.std.specs.List.Sorted.{IsPermutation, IsNonDecreasingBy}
use Rattle.std.proofs.lemmas.Fmt.{signed_decimal_injective}
use Rattle.std.proofs.lemmas.Bool.Decides.{Decides-int_eq}
use Rattle.std.proofs.lemmas.Slice.Eq.{bytes_eq-Decides}
use Rattle.std.proofs.lemmas.List.Sorted.{IsPermutation-refl, IsPermutation-append_left, IsPermutation-append_right, IsPermutation-append_comm, IsPermutation-map, IsPermutation-trans, IsPermutation-middle, All-permutation}
use Rattle.awk_value.specs.support.Texts.{IsInt64, IsTextKey}
use Rattle.awk_value.proofs.Rows.{map-twice, map-both, map-push}
use Rattle.awk_value.specs.support.Entries.{all_entries, all_rows, IsConsistent}
use Rattle.awk_value.specs.support.StampOrder.{stamp_order}
use Rattle.awk_value.proofs.OneEntry.{rows, found-some, found-none, set-found, kept_put, absent-found, without-none}
use Rattle.awk_value.proofs.Moves.{kept-moved, ordered-moved, kept-more, ordered-more, kept-taken, ordered-taken, flips, stamp_order-moved, stamp_order-made, stamp_order-ordered, ordered-distinct}
use Rattle.awk_value.proofs.Counts.{length-stamp_order}
use Rattle.std.proofs.lemmas.List.{length-map}
use Rattle.std.proofs.lemmas.Map.Keys.{IsDistinct-IsPermutation}
use Rattle.std.proofs.lemmas.List.Elements.{recursion_from_All, All-from_recursion}
use Rattle.std.specs.Cmp.Lexicographic.{nat_list_eq_equiv}
use Rattle.awk_value.proofs.NamedKeys.{lookup-named, set_value-named}

-- two tests that decide the same
pub same_tests : {P Q : Type 0} (a b : Bool) → (a ≡ true → P) → (P → a ≡ true) → (b ≡ true → Q) → (Q → b ≡ true)
    → (P → Q) → (Q → P) → a ≡ b
same_tests true true p pp q qq f g = refl
same_tests false false p pp q qq f g = refl
same_tests true false p pp q qq f g = sym (qq (f (p refl)))
same_tests false true p pp q qq f g = pp (g (q refl))

-- the texts of small numbers are compared as the numbers are
pub eq-numbers : (n m : ℤ) → IsInt64 n → IsInt64 m → bytes_eq (signed_decimal n) (signed_decimal m) ≡ int_eq n m
eq-numbers n m a b =
    let x = bytes_eq-Decides (signed_decimal n) (signed_decimal m) in
    let y = Decides-int_eq n m in
    same_tests (bytes_eq (signed_decimal n) (signed_decimal m)) (int_eq n m) x.0 x.1 y.0 y.1 (signed_decimal_injective n m a b) (ap signed_decimal)

pub not_bytes : (xs ys : List ℕ) → (xs ≡ ys → ⊥) → bytes_eq xs ys ≡ false
not_bytes xs ys h = by (bytes_eq xs ys) refl
  where
    by : (b : Bool) → bytes_eq xs ys ≡ b → bytes_eq xs ys ≡ false
    by true e = absurd (h ((bytes_eq-Decides xs ys).0 e))
    by false e = e

-- a look-up in two lists one after the other
module _ {L E : Type 0} (p : L → Bool) where
  lookup-free : (xs : List (L × E)) → AllByRecursion (λ e. p e.0 ≡ false) xs → lookup p xs ≡ None
  lookup-free [] a = refl
  lookup-free (x ∷ xs) a = ap (λ b. cond b (Some x.1) (lookup p xs)) a.0 ∙ lookup-free xs a.1

  set-free : (xs : List (L × E)) (w : E) → AllByRecursion (λ e. p e.0 ≡ false) xs → set_value p xs w ≡ xs
  set-free [] w a = refl
  set-free (x ∷ xs) w a =
      ap (λ b. cond b ((x.0, w) ∷ xs) (x ∷ set_value p xs w)) a.0 ∙ ap (λ l. x ∷ l) (set-free xs w a.1)

  pub lookup-left : (xs ys : List (L × E)) → AllByRecursion (λ e. p e.0 ≡ false) ys → lookup p (xs ++ ys) ≡ lookup p xs
  lookup-left [] ys a = lookup-free ys a
  lookup-left (x ∷ xs) ys a = ap (cond (p x.0) (Some x.1)) (lookup-left xs ys a)

  pub lookup-right : (xs ys : List (L × E)) → AllByRecursion (λ e. p e.0 ≡ false) xs → lookup p (xs ++ ys) ≡ lookup p ys
  lookup-right [] ys a = refl
  lookup-right (x ∷ xs) ys a = ap (λ b. cond b (Some x.1) (lookup p (xs ++ ys))) a.0 ∙ lookup-right xs ys a.1

  pub set-left : (xs ys : List (L × E)) (w : E) → AllByRecursion (λ e. p e.0 ≡ false) ys
      → set_value p (xs ++ ys) w ≡ set_value p xs w ++ ys
  set-left [] ys w a = set-free ys w a
  set-left (x ∷ xs) ys w a =
      step (p x.0) x w (xs ++ ys) xs (set_value p (xs ++ ys) w) (set_value p xs w) (set-left xs ys w a) refl
    where
      step : (b : Bool) (x : L × E) (w : E) (all xs l r : List (L × E)) → l ≡ r ++ ys → all ≡ xs ++ ys
          → cond b ((x.0, w) ∷ all) (x ∷ l) ≡ cond b ((x.0, w) ∷ xs) (x ∷ r) ++ ys
      step true x w all xs l r h g = ap (λ l. (x.0, w) ∷ l) g
      step false x w all xs l r h g = ap (λ l. x ∷ l) h

  pub set-right : (xs ys : List (L × E)) (w : E) → AllByRecursion (λ e. p e.0 ≡ false) xs
      → set_value p (xs ++ ys) w ≡ xs ++ set_value p ys w
  set-right [] ys w a = refl
  set-right (x ∷ xs) ys w a =
      ap (λ b. cond b ((x.0, w) ∷ xs ++ ys) (x ∷ set_value p (xs ++ ys) w)) a.0
      ∙ ap (λ l. x ∷ l) (set-right xs ys w a.1)

pub set-keys : {L E : Type 0} (p : L → Bool) (xs : List (L × E)) (w : E) → keys_of (set_value p xs w) ≡ keys_of xs
set-keys p [] w = refl
set-keys {L} {E} p (x ∷ xs) w = by (p x.0) (set_value p xs w) (set-keys p xs w)
  where
    by : (b : Bool) (l : List (L × E)) → keys_of l ≡ keys_of xs
        → keys_of (cond b ((x.0, w) ∷ xs) (x ∷ l)) ≡ x.0 ∷ keys_of xs
    by true l h = refl
    by false l h = ap (λ l. x.0 ∷ l) h

module _ {T E : Type 0} (items : T → List ℕ) (ns : List (ℤ × E)) (ts : List (T × E)) (smalls : AllByRecursion IsInt64 (keys_of ns)) (others : AllByRecursion (λ t. IsTextKey (items t)) (keys_of ts)) where
  free-texts : (n : ℤ) → IsInt64 n → (ts : List (T × E)) → AllByRecursion (λ t. IsTextKey (items t)) (keys_of ts)
      → AllByRecursion (λ (e : List ℕ × E). bytes_eq (signed_decimal n) e.0 ≡ false) (map (λ e. (items e.0, e.1)) ts)
  free-texts n s [] a = tt
  free-texts n s (t ∷ ts) a = (not_bytes (signed_decimal n) (items t.0) (λ e. a.0 n s (sym e)), free-texts n s ts a.1)

  free-numbers : (k : List ℕ) → IsTextKey k → (ns : List (ℤ × E)) → AllByRecursion IsInt64 (keys_of ns)
      → AllByRecursion (λ (e : List ℕ × E). bytes_eq k e.0 ≡ false) (map (λ e. (signed_decimal e.0, e.1)) ns)
  free-numbers k o [] a = tt
  free-numbers k o (n ∷ ns) a = (not_bytes k (signed_decimal n.0) (λ e. o n.0 a.0 e), free-numbers k o ns a.1)

  lookup-numbers : (n : ℤ) → IsInt64 n → (ns : List (ℤ × E)) → AllByRecursion IsInt64 (keys_of ns)
      → lookup (λ k. bytes_eq (signed_decimal n) (signed_decimal k)) ns ≡ lookup (int_eq n) ns
  lookup-numbers n s [] a = refl
  lookup-numbers n s (m ∷ ms) a = (λ j. cond (eq-numbers n m.0 s a.0 j) (Some m.1) (lookup-numbers n s ms a.1 j))

  set-numbers : (n : ℤ) (w : E) → IsInt64 n → (ns : List (ℤ × E)) → AllByRecursion IsInt64 (keys_of ns)
      → set_value (λ k. bytes_eq (signed_decimal n) (signed_decimal k)) ns w ≡ set_value (int_eq n) ns w
  set-numbers n w s [] a = refl
  set-numbers n w s (m ∷ ms) a = (λ j. cond (eq-numbers n m.0 s a.0 j) ((m.0, w) ∷ ms) (m ∷ set-numbers n w s ms a.1 j))

  module _ (n : ℤ) (s : IsInt64 n) where
    -- a small number is looked up among the numbers
    pub number-lookup : lookup (bytes_eq (signed_decimal n)) (all_entries items ns ts) ≡ lookup (int_eq n) ns
    number-lookup =
        lookup-left (bytes_eq (signed_decimal n)) (map (λ e. (signed_decimal e.0, e.1)) ns) (map (λ e. (items e.0, e.1)) ts) (free-texts n s ts others)
        ∙ lookup-named ns signed_decimal (bytes_eq (signed_decimal n)) ∙ lookup-numbers n s ns smalls

    pub number-set : (w : E)
        → all_entries items (set_value (int_eq n) ns w) ts ≡ set_value (bytes_eq (signed_decimal n)) (all_entries items ns ts) w
    number-set w =
        sym (
        set-left (bytes_eq (signed_decimal n)) (map (λ e. (signed_decimal e.0, e.1)) ns) (map (λ e. (items e.0, e.1)) ts) w (free-texts n s ts others)
        ∙ ap (λ l. l ++ map (λ e. (items e.0, e.1)) ts) (set_value-named ns signed_decimal (bytes_eq (signed_decimal n)) w ∙ ap (map (λ e. (signed_decimal e.0, e.1))) (set-numbers n w s ns smalls))
        )

    pub number-more : (x : E)
        → IsPermutation (all_entries items ns ts ++ (signed_decimal n, x) ∷ []) (all_entries items (ns ++ (n, x) ∷ []) ts)
    number-more x =
        let xs : List (List ℕ × E) = map (λ e. (signed_decimal e.0, e.1)) ns in
        let ys : List (List ℕ × E) = map (λ e. (items e.0, e.1)) ts in
        let z : List (List ℕ × E) = (signed_decimal n, x) ∷ [] in
        let new : xs ++ (z ++ ys) ≡ all_entries items (ns ++ (n, x) ∷ []) ts =
        sym (append_assoc xs z ys)
        ∙ ap (λ l. l ++ ys) (sym (map-push (λ e. (signed_decimal e.0, e.1)) ns (n, x))) in
        subst (λ l. IsPermutation l (all_entries items (ns ++ (n, x) ∷ []) ts)) (sym (append_assoc xs ys z))
        (subst (λ l. IsPermutation (xs ++ (ys ++ z)) l) new (IsPermutation-append_right xs (ys ++ z) (z ++ ys) (IsPermutation-append_comm ys z)))

  module _ (k : List ℕ) (o : IsTextKey k) where
    -- another text is looked up among the texts
    pub text-lookup : lookup (bytes_eq k) (all_entries items ns ts) ≡ lookup (λ t. bytes_eq k (items t)) ts
    text-lookup =
        lookup-right (bytes_eq k) (map (λ e. (signed_decimal e.0, e.1)) ns) (map (λ e. (items e.0, e.1)) ts) (free-numbers k o ns smalls)
        ∙ lookup-named ts items (bytes_eq k)

    pub text-set : (w : E)
        → all_entries items ns (set_value (λ t. bytes_eq k (items t)) ts w) ≡ set_value (bytes_eq k) (all_entries items ns ts) w
    text-set w =
        sym (
        set-right (bytes_eq k) (map (λ e. (signed_decimal e.0, e.1)) ns) (map (λ e. (items e.0, e.1)) ts) w (free-numbers k o ns smalls)
        ∙ ap (λ l. map (λ e. (signed_decimal e.0, e.1)) ns ++ l) (set_value-named ts items (bytes_eq k) w)
        )

  pub text-more : (t : T) (k : List ℕ) (x : E) → items t ≡ k
      → IsPermutation (all_entries items ns ts ++ (k, x) ∷ []) (all_entries items ns (ts ++ (t, x) ∷ []))
  text-more t k x e =
      let xs : List (List ℕ × E) = map (λ e. (signed_decimal e.0, e.1)) ns in
      let ys : List (List ℕ × E) = map (λ e. (items e.0, e.1)) ts in
      let new : (xs ++ ys) ++ (k, x) ∷ [] ≡ all_entries items ns (ts ++ (t, x) ∷ []) =
      (λ j. (xs ++ ys) ++ (sym e j, x) ∷ []) ∙ append_assoc xs ys ((items t, x) ∷ [])
      ∙ ap (λ l. xs ++ l) (sym (map-push (λ e. (items e.0, e.1)) ts (t, x))) in
      subst (λ l. IsPermutation ((xs ++ ys) ++ (k, x) ∷ []) l) new (IsPermutation-refl _)

  -- entries that leave their map leave the all_entries ones
  pub number-taken : (n : ℤ) (x : E) (ms : List (ℤ × E)) → IsPermutation ns ((n, x) ∷ ms)
      → IsPermutation (all_entries items ns ts) ((signed_decimal n, x) ∷ all_entries items ms ts)
  number-taken n x ms m =
      IsPermutation-append_left (map (λ e. (items e.0, e.1)) ts) _ _ (IsPermutation-map (λ e. (signed_decimal e.0, e.1)) ns ((n, x) ∷ ms) m)

  pub text-taken : (t : T) (x : E) (us : List (T × E)) → IsPermutation ts ((t, x) ∷ us)
      → IsPermutation (all_entries items ns ts) ((items t, x) ∷ all_entries items ns us)
  text-taken t x us m =
      let xs : List (List ℕ × E) = map (λ e. (signed_decimal e.0, e.1)) ns in
      let ys : List (List ℕ × E) = map (λ e. (items e.0, e.1)) us in
      IsPermutation-trans _ _ _ (IsPermutation-append_right xs _ _ (IsPermutation-map (λ e. (items e.0, e.1)) ts ((t, x) ∷ us) m))
      (IsPermutation-middle xs (items t, x) ys)

pub all_more : {X : Type 0} (P : X → Type 0) (xs : List X) (x : X) → AllByRecursion P xs → P x
    → AllByRecursion P (xs ++ x ∷ [])
all_more P [] x a h = (h, tt)
all_more P (y ∷ ys) x a h = (a.0, all_more P ys x a.1 h)

pub keys-more : {K E : Type 0} (es : List (K × E)) (k : K) (x : E) → keys_of (es ++ (k, x) ∷ []) ≡ keys_of es ++ k ∷ []
keys-more [] k x = refl
keys-more (e ∷ es) k x = ap (λ l. e.0 ∷ l) (keys-more es k x)

pub turned_keys : (x y : List ℕ) → bytes_eq x y ≡ bytes_eq y x
turned_keys x y = nat_list_eq_equiv.symm x y

-- the words on a table of two maps
module _ {T E V : Type 0} (items : T → List ℕ) (stamp : E → ℕ) (value : E → V) (n : ℕ) (ns : List (ℤ × E)) (ts : List (T × E)) (i : IsConsistent items stamp value n ns ts) where
  module _ (k : List ℕ) where
    looked-some : (x : E) → lookup (bytes_eq k) (all_entries items ns ts) ≡ Some x
        → lookup (bytes_eq k) (stamp_order n (all_rows items stamp value ns ts)) ≡ Some (value x)
    looked-some x e =
        found-some (λ k. k) stamp value bytes_eq n (bytes_eq k) (λ x y. nat_list_eq_equiv.congr k x y) (all_entries items ns ts) i.0.0 i.0.1 i.0.2 x e

    looked-none : lookup (bytes_eq k) (all_entries items ns ts) ≡ None
        → lookup (bytes_eq k) (stamp_order n (all_rows items stamp value ns ts)) ≡ None
    looked-none e =
        found-none (λ k. k) stamp value bytes_eq n (bytes_eq k) (λ x y. nat_list_eq_equiv.congr k x y) (all_entries items ns ts) i.0.0 i.0.1 i.0.2 e

    absent : lookup (bytes_eq k) (stamp_order n (all_rows items stamp value ns ts)) ≡ None
        → lookup (bytes_eq k) (all_entries items ns ts) ≡ None
    absent e =
        absent-found (λ k. k) stamp value bytes_eq n (bytes_eq k) (λ x y. nat_list_eq_equiv.congr k x y) (all_entries items ns ts) i.0 e

  module _ (z : ℤ) (s : IsInt64 z) where
    at : lookup (bytes_eq (signed_decimal z)) (all_entries items ns ts) ≡ lookup (int_eq z) ns
    at = number-lookup items ns ts i.1 i.2 z s

    pub number-some : (x : E) → lookup (int_eq z) ns ≡ Some x
        → lookup (bytes_eq (signed_decimal z)) (stamp_order n (all_rows items stamp value ns ts)) ≡ Some (value x)
    number-some x e = looked-some (signed_decimal z) x (at ∙ e)

    pub number-none : lookup (int_eq z) ns ≡ None
        → lookup (bytes_eq (signed_decimal z)) (stamp_order n (all_rows items stamp value ns ts)) ≡ None
    number-none e = looked-none (signed_decimal z) (at ∙ e)

    pub number-absent : lookup (bytes_eq (signed_decimal z)) (stamp_order n (all_rows items stamp value ns ts)) ≡ None
        → lookup (int_eq z) ns ≡ None
    number-absent e = sym at ∙ absent (signed_decimal z) e

    -- a value set at a number
    module _ (x y : E) (same : stamp y ≡ stamp x) (e : lookup (int_eq z) ns ≡ Some x) (ms : List (ℤ × E)) (m : ms ≡ set_value (int_eq z) ns y) where
      all : all_entries items ms ts ≡ set_value (bytes_eq (signed_decimal z)) (all_entries items ns ts) y
      all = ap (λ l. all_entries items l ts) m ∙ number-set items ns ts i.1 i.2 z s y

      pub number-kept-set : IsConsistent items stamp value n ms ts
      number-kept-set = (
        kept_put (λ k. k) stamp value bytes_eq n (bytes_eq (signed_decimal z)) x y (all_entries items ns ts) (all_entries items ms ts) all (ap keys_of all ∙ set-keys (bytes_eq (signed_decimal z)) (all_entries items ns ts) y) same (at ∙ e) i.0,
        subst (AllByRecursion IsInt64) (sym (ap keys_of m ∙ set-keys (int_eq z) ns y)) i.1,
        i.2,
      )

      pub number-seen-set : stamp_order n (all_rows items stamp value ms ts) ≡ set_value (bytes_eq (signed_decimal z)) (stamp_order n (all_rows items stamp value ns ts)) (value y)
      number-seen-set =
          ap (λ l. stamp_order n (rows (λ k. k) stamp value l)) all
          ∙ set-found (λ k. k) stamp value bytes_eq n (bytes_eq (signed_decimal z)) (λ x y. nat_list_eq_equiv.congr (signed_decimal z) x y) (all_entries items ns ts) i.0.0 i.0.1 i.0.2 x y (at ∙ e) same

    -- a new number
    module _ (x : E) (m : ℕ) (own : stamp x ≡ n) (up : m ≡ n + 1) (e : lookup (int_eq z) ns ≡ None) (ms : List (ℤ × E)) (h : ms ≡ ns ++ (z, x) ∷ []) where
      moves : IsPermutation (all_entries items ns ts ++ (signed_decimal z, x) ∷ []) (all_entries items ms ts)
      moves =
          subst (λ l. IsPermutation (all_entries items ns ts ++ (signed_decimal z, x) ∷ []) (all_entries items l ts)) (sym h) (number-more items ns ts i.1 i.2 z s x)

      pub number-kept-more : IsConsistent items stamp value m ms ts
      number-kept-more = (
        kept-more (λ k. k) stamp value bytes_eq turned_keys n m (signed_decimal z) x (all_entries items ns ts) (all_entries items ms ts) own up (at ∙ e) i.0 moves,
        subst (AllByRecursion IsInt64) (sym (ap keys_of h ∙ keys-more ns z x)) (all_more IsInt64 (keys_of ns) z i.1 s),
        i.2,
      )

      pub number-seen-more : stamp_order m (all_rows items stamp value ms ts) ≡ stamp_order n (all_rows items stamp value ns ts) ++ (signed_decimal z, value x) ∷ []
      number-seen-more =
          ordered-more (λ k. k) stamp value bytes_eq turned_keys n m (signed_decimal z) x (all_entries items ns ts) (all_entries items ms ts) own up (at ∙ e) i.0 moves

  module _ (k : List ℕ) (s : IsTextKey k) where
    text-at : lookup (bytes_eq k) (all_entries items ns ts) ≡ lookup (λ t. bytes_eq k (items t)) ts
    text-at = text-lookup items ns ts i.1 i.2 k s

    pub text-some : (x : E) → lookup (λ t. bytes_eq k (items t)) ts ≡ Some x
        → lookup (bytes_eq k) (stamp_order n (all_rows items stamp value ns ts)) ≡ Some (value x)
    text-some x e = looked-some k x (text-at ∙ e)

    pub text-none : lookup (λ t. bytes_eq k (items t)) ts ≡ None
        → lookup (bytes_eq k) (stamp_order n (all_rows items stamp value ns ts)) ≡ None
    text-none e = looked-none k (text-at ∙ e)

    pub text-absent : lookup (bytes_eq k) (stamp_order n (all_rows items stamp value ns ts)) ≡ None
        → lookup (λ t. bytes_eq k (items t)) ts ≡ None
    text-absent e = sym text-at ∙ absent k e

    module _ (x y : E) (same : stamp y ≡ stamp x) (e : lookup (λ t. bytes_eq k (items t)) ts ≡ Some x) (us : List (T × E)) (m : us ≡ set_value (λ t. bytes_eq k (items t)) ts y) where
      text-all : all_entries items ns us ≡ set_value (bytes_eq k) (all_entries items ns ts) y
      text-all = ap (λ l. all_entries items ns l) m ∙ text-set items ns ts i.1 i.2 k s y

      pub text-kept-set : IsConsistent items stamp value n ns us
      text-kept-set = (
        kept_put (λ k. k) stamp value bytes_eq n (bytes_eq k) x y (all_entries items ns ts) (all_entries items ns us) text-all (ap keys_of text-all ∙ set-keys (bytes_eq k) (all_entries items ns ts) y) same (text-at ∙ e) i.0,
        i.1,
        subst (AllByRecursion (λ t. IsTextKey (items t))) (sym (ap keys_of m ∙ set-keys (λ t. bytes_eq k (items t)) ts y)) i.2,
      )

      pub text-seen-set : stamp_order n (all_rows items stamp value ns us) ≡ set_value (bytes_eq k) (stamp_order n (all_rows items stamp value ns ts)) (value y)
      text-seen-set =
          ap (λ l. stamp_order n (rows (λ k. k) stamp value l)) text-all
          ∙ set-found (λ k. k) stamp value bytes_eq n (bytes_eq k) (λ x y. nat_list_eq_equiv.congr k x y) (all_entries items ns ts) i.0.0 i.0.1 i.0.2 x y (text-at ∙ e) same

    module _ (t : T) (is : items t ≡ k) (x : E) (m : ℕ) (own : stamp x ≡ n) (up : m ≡ n + 1) (e : lookup (λ t. bytes_eq k (items t)) ts ≡ None) (us : List (T × E)) (h : us ≡ ts ++ (t, x) ∷ []) where
      text-moves : IsPermutation (all_entries items ns ts ++ (k, x) ∷ []) (all_entries items ns us)
      text-moves =
          subst (λ l. IsPermutation (all_entries items ns ts ++ (k, x) ∷ []) (all_entries items ns l)) (sym h) (text-more items ns ts i.1 i.2 t k x is)

      pub text-kept-more : IsConsistent items stamp value m ns us
      text-kept-more = (
        kept-more (λ k. k) stamp value bytes_eq turned_keys n m k x (all_entries items ns ts) (all_entries items ns us) own up (text-at ∙ e) i.0 text-moves,
        i.1,
        subst (AllByRecursion (λ t. IsTextKey (items t))) (sym (ap keys_of h ∙ keys-more ts t x)) (all_more (λ t. IsTextKey (items t)) (keys_of ts) t i.2 (subst IsTextKey (sym is) s)),
      )

      pub text-seen-more : stamp_order m (all_rows items stamp value ns us) ≡ stamp_order n (all_rows items stamp value ns ts) ++ (k, value x) ∷ []
      text-seen-more =
          ordered-more (λ k. k) stamp value bytes_eq turned_keys n m k x (all_entries items ns ts) (all_entries items ns us) own up (text-at ∙ e) i.0 text-moves

pub split_none : {T E V : Type 0} (items : T → List ℕ) (stamp : E → ℕ) (value : E → V) (n : ℕ) (ns : List (ℤ × E)) (ts : List (T × E))
    → ns ≡ [] → ts ≡ [] → IsConsistent items stamp value n ns ts
unfolding IsDistinct
split_none items stamp value n ns ts e f =
    subst (λ l. IsConsistent items stamp value n l ts) (sym e) (subst (λ l. IsConsistent items stamp value n [] l) (sym f) ((tt, tt, tt), tt, tt))

pub all_moved : {X : Type 0} (P : X → Type 0) (xs ys : List X) (x : X) → IsPermutation xs (x ∷ ys)
    → AllByRecursion P xs → AllByRecursion P ys
all_moved P xs ys x m a =
    (recursion_from_All P (x ∷ ys) (All-permutation P xs (x ∷ ys) m (All-from_recursion P xs a))).1

-- a key taken out
module _ {T E V : Type 0} (items : T → List ℕ) (stamp : E → ℕ) (value : E → V) (n : ℕ) (ns : List (ℤ × E)) (ts : List (T × E)) (i : IsConsistent items stamp value n ns ts) where
  pub record Out (k : List ℕ) (ms : List (ℤ × E)) (us : List (T × E)) : Type 0 where
    pub kept : IsConsistent items stamp value n ms us
    pub seen : stamp_order n (all_rows items stamp value ms us) ≡ remove_entry (bytes_eq k) (stamp_order n (all_rows items stamp value ns ts))

  missed : (k : List ℕ) → lookup (bytes_eq k) (all_entries items ns ts) ≡ None → Out k ns ts
  missed k e = record {
    kept = i;
    seen =
        sym (without-none (λ k. k) stamp value bytes_eq n (bytes_eq k) (λ x y. nat_list_eq_equiv.congr k x y) (all_entries items ns ts) i.0.0 i.0.1 i.0.2 e);
  }

  pub number-missed : (z : ℤ) → IsInt64 z → lookup (int_eq z) ns ≡ None → Out (signed_decimal z) ns ts
  number-missed z s e = missed (signed_decimal z) (number-lookup items ns ts i.1 i.2 z s ∙ e)

  pub number-out : (z : ℤ) → IsInt64 z → (k : ℤ) (x : E) (ms : List (ℤ × E)) → lookup (int_eq z) ns ≡ Some x
      → IsPermutation ns ((k, x) ∷ ms) → Out (signed_decimal z) ms ts
  number-out z s k x ms e moves =
      let all = number-taken items ns ts i.1 i.2 k x ms moves in
      record {
        kept = (
          kept-taken (λ k. k) stamp value bytes_eq turned_keys n (all_entries items ns ts) (all_entries items ms ts) (signed_decimal k) x all i.0,
          all_moved IsInt64 (keys_of ns) (keys_of ms) k (IsPermutation-map (λ e. e.0) ns ((k, x) ∷ ms) moves) i.1,
          i.2,
        );
        seen =
            ordered-taken (λ k. k) stamp value bytes_eq turned_keys n (all_entries items ns ts) (all_entries items ms ts) (signed_decimal k) x all i.0 (bytes_eq (signed_decimal z)) (λ x y. nat_list_eq_equiv.congr (signed_decimal z) x y) (number-lookup items ns ts i.1 i.2 z s ∙ e);
      }

  pub text-missed : (k : List ℕ) → IsTextKey k → lookup (λ t. bytes_eq k (items t)) ts ≡ None → Out k ns ts
  text-missed k s e = missed k (text-lookup items ns ts i.1 i.2 k s ∙ e)

  pub text-out : (k : List ℕ) → IsTextKey k → (t : T) (x : E) (us : List (T × E))
      → lookup (λ t. bytes_eq k (items t)) ts ≡ Some x → IsPermutation ts ((t, x) ∷ us) → Out k ns us
  text-out k s t x us e moves =
      let all = text-taken items ns ts i.1 i.2 t x us moves in
      record {
        kept = (
          kept-taken (λ k. k) stamp value bytes_eq turned_keys n (all_entries items ns ts) (all_entries items ns us) (items t) x all i.0,
          i.1,
          all_moved (λ t. IsTextKey (items t)) (keys_of ts) (keys_of us) t (IsPermutation-map (λ e. e.0) ts ((t, x) ∷ us) moves) i.2,
        );
        seen =
            ordered-taken (λ k. k) stamp value bytes_eq turned_keys n (all_entries items ns ts) (all_entries items ns us) (items t) x all i.0 (bytes_eq k) (λ x y. nat_list_eq_equiv.congr k x y) (text-lookup items ns ts i.1 i.2 k s ∙ e);
      }

-- numbers that change places
module _ {T E V : Type 0} (items : T → List ℕ) (stamp : E → ℕ) (value : E → V) (n : ℕ) (ns ms : List (ℤ × E)) (ts : List (T × E)) (m : IsPermutation ns ms) (i : IsConsistent items stamp value n ns ts) where
  numbers-moved : IsPermutation (all_entries items ns ts) (all_entries items ms ts)
  numbers-moved =
      IsPermutation-append_left (map (λ e. (items e.0, e.1)) ts) _ _ (IsPermutation-map (λ e. (signed_decimal e.0, e.1)) ns ms m)

  pub number-kept-moved : IsConsistent items stamp value n ms ts
  number-kept-moved = (
    kept-moved (λ k. k) stamp value bytes_eq turned_keys n (all_entries items ns ts) (all_entries items ms ts) numbers-moved i.0,
    recursion_from_All IsInt64 (keys_of ms) (All-permutation IsInt64 (keys_of ns) (keys_of ms) (IsPermutation-map (λ e. e.0) ns ms m) (All-from_recursion IsInt64 (keys_of ns) i.1)),
    i.2,
  )

  pub number-seen-moved : stamp_order n (all_rows items stamp value ms ts) ≡ stamp_order n (all_rows items stamp value ns ts)
  number-seen-moved =
      ordered-moved (λ k. k) stamp value bytes_eq n (all_entries items ns ts) (all_entries items ms ts) numbers-moved i.0

-- texts that change places
module _ {T E V : Type 0} (items : T → List ℕ) (stamp : E → ℕ) (value : E → V) (n : ℕ) (ns : List (ℤ × E)) (ts us : List (T × E)) (m : IsPermutation ts us) (i : IsConsistent items stamp value n ns ts) where
  texts-moved : IsPermutation (all_entries items ns ts) (all_entries items ns us)
  texts-moved =
      IsPermutation-append_right (map (λ e. (signed_decimal e.0, e.1)) ns) _ _ (IsPermutation-map (λ e. (items e.0, e.1)) ts us m)

  pub text-kept-moved : IsConsistent items stamp value n ns us
  text-kept-moved = (
    kept-moved (λ k. k) stamp value bytes_eq turned_keys n (all_entries items ns ts) (all_entries items ns us) texts-moved i.0,
    i.1,
    recursion_from_All (λ t. IsTextKey (items t)) (keys_of us) (All-permutation (λ t. IsTextKey (items t)) (keys_of ts) (keys_of us) (IsPermutation-map (λ e. e.0) ts us m) (All-from_recursion (λ t. IsTextKey (items t)) (keys_of ts) i.2)),
  )

  pub text-seen-moved : stamp_order n (all_rows items stamp value ns us) ≡ stamp_order n (all_rows items stamp value ns ts)
  text-seen-moved =
      ordered-moved (λ k. k) stamp value bytes_eq n (all_entries items ns ts) (all_entries items ns us) texts-moved i.0

-- the keys and their number
module _ {T E V : Type 0} (items : T → List ℕ) (stamp : E → ℕ) (value : E → V) (n : ℕ) (ns : List (ℤ × E)) (ts : List (T × E)) (i : IsConsistent items stamp value n ns ts) where
  pub keys-rows : (ps qs : List (ℕ × List ℕ))
      → ps ≡ map (λ e. (stamp e.1, signed_decimal e.0)) ns ++ map (λ e. (stamp e.1, items e.0)) ts
      → IsPermutation ps qs → IsNonDecreasingBy (λ r. r.0) qs
      → map (λ r. r.1) qs ≡ keys_of (stamp_order n (all_rows items stamp value ns ts))
  keys-rows ps qs e m s =
      let row : List ℕ × E → ℕ × (List ℕ × V) = λ e. (stamp e.1, (e.0, value e.1)) in
      let two : ℕ × (List ℕ × V) → ℕ × List ℕ = λ r. (r.0, r.1.0) in
      let own : List ℕ × E → ℕ × List ℕ = λ e. (stamp e.1, e.0) in
      let number : ℤ × E → List ℕ × E = λ e. (signed_decimal e.0, e.1) in
      let text : T × E → List ℕ × E = λ e. (items e.0, e.1) in
      let rs : List (ℕ × (List ℕ × V)) = all_rows items stamp value ns ts in
      let xs : List (List ℕ × E) = map number ns in
      let ys : List (List ℕ × E) = map text ts in
      let base : ps ≡ map two rs =
      e
      ∙ sym (map-twice two row (xs ++ ys) ∙ map-both own xs ys ∙ (λ j. map-twice own number ns j ++ map-twice own text ts j)) in
      let same : keys_of ps ≡ keys_of rs = ap keys_of base ∙ map-twice (λ e. e.0) two rs in
      let dp : IsDistinct nat_eq (keys_of ps) = subst (λ l. IsDistinct nat_eq l) (sym same) i.0.0 in
      let km = IsPermutation-map (λ e. e.0) ps qs m in
      let dq = IsDistinct-IsPermutation nat_eq flips (keys_of ps) (keys_of qs) km dp in
      let bp : AllByRecursion (λ s. s < n) (keys_of ps) = subst (λ l. AllByRecursion (λ s. s < n) l) (sym same) i.0.2 in
      let bq =
      recursion_from_All (λ s. s < n) (keys_of qs) (All-permutation (λ s. s < n) (keys_of ps) (keys_of qs) km (All-from_recursion (λ s. s < n) (keys_of ps) bp)) in
      sym (stamp_order-ordered n qs s dq bq) ∙ sym (stamp_order-moved n ps qs m dp) ∙ ap (stamp_order n) base
      ∙ stamp_order-made (λ p. p.0) n rs

  pub length-all_entries : length ns + length ts ≡ length (stamp_order n (all_rows items stamp value ns ts))
  length-all_entries =
      let row : List ℕ × E → ℕ × (List ℕ × V) = λ e. (stamp e.1, (e.0, value e.1)) in
      let number : ℤ × E → List ℕ × E = λ e. (signed_decimal e.0, e.1) in
      let text : T × E → List ℕ × E = λ e. (items e.0, e.1) in
      sym (
      length-stamp_order n (all_rows items stamp value ns ts) i.0.0 i.0.2
      ∙ length-map (map number ns ++ map text ts) row
      ∙ length-append (map number ns) (map text ts)
      ∙ (λ j. length-map ns number j + length-map ts text j)
      )

  pub distinct-all_entries : IsDistinct bytes_eq (keys_of (stamp_order n (all_rows items stamp value ns ts)))
  distinct-all_entries = ordered-distinct (λ k. k) stamp value bytes_eq turned_keys n (all_entries items ns ts) i.0
