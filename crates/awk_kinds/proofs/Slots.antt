-- The slots of names.
use Rattle.std.proofs.Common.{◌≡◌, ℕ, zero, suc, ◌<◌, Bool, true, false, ◌||◌, List, [], ◌∷◌, ◌++◌, map, length, Option, Some, None, slice_get, if◌then◌else◌, inl, inr, refl, sym, ap, ◌∙◌, true≢false}
use Rattle.std.specs.Global.{Vec}
use Rattle.std.specs.Str.{bytes_eq}
use Rattle.std.specs.List.{IsDistinct}
use Rattle.std.specs.Option.{option_map}
use Rattle.std.proofs.lemmas.Bool.{cases_order}
use Rattle.std.proofs.lemmas.Option.{slice_get_cases, slice_get-map, get_or_from_slice_get}
use Rattle.std.proofs.lemmas.Map.Keys.{apart_from_distinct}
use Rattle.std.proofs.lemmas.Slice.Eq.{bytes_eq-Decides}
use Rattle.awk_kinds.specs.definitions.Names.{has_name, with_name, AreDistinct, Numbers}
use Rattle.awk_kinds.specs.definitions.Signatures.{place_of}

abbrev names_of : List (Vec ℕ) → List (List ℕ)
names_of ks = map (λ k. k.items) ks

abbrev key_eq : Vec ℕ → Vec ℕ → Bool
key_eq k l = bytes_eq k.items l.items

same_some : {A : Type 0} {x y : A} → Some x ≡ Some y → x ≡ y
same_some e = cc

none_or_some : {A : Type 0} {x : A} → None ≡ Some x → ⊥
none_or_some e = cc

-- a name at a place is there
pub has_name-stands : (names : List (List ℕ)) (i : ℕ) (name : List ℕ) → slice_get names i ≡ Some name → has_name names name ≡ true
has_name-stands [] i name h = cc
has_name-stands (x ∷ xs) zero name h =
    let same : name ≡ x = cc in
    ap (λ b. b || has_name xs name) ((bytes_eq-Decides name x).1 same)
has_name-stands (x ∷ xs) (suc i) name h = by (bytes_eq name x) (has_name-stands xs i name h)
  where
    by : (b : Bool) → has_name xs name ≡ true → (b || has_name xs name) ≡ true
    by true e = refl
    by false e = e

earlier : (ks : List (Vec ℕ)) (i j : ℕ) (k l : Vec ℕ) → IsDistinct key_eq ks → i < j → j < length ks → slice_get ks i ≡ Some k → slice_get ks j ≡ Some l → k.items ≡ l.items → ⊥
earlier ks i j k l distinct before low at_i at_j same =
    let apart : key_eq k l ≡ false =
    (λ p. key_eq (sym (get_or_from_slice_get ks i k k at_i) p) (sym (get_or_from_slice_get ks j l k at_j) p)) ∙ apart_from_distinct key_eq ks i j k distinct before low in
    true≢false (sym ((bytes_eq-Decides k.items l.items).1 same) ∙ apart)

one_place : (ks : List (Vec ℕ)) (i j : ℕ) (k l : Vec ℕ) → IsDistinct key_eq ks → i < length ks → j < length ks → slice_get ks i ≡ Some k → slice_get ks j ≡ Some l → k.items ≡ l.items → i ≡ j
one_place ks i j k l distinct low_i low_j at_i at_j same =
    elim (cases_order i j) [
      | inl equal ↦ equal
      | inr rest ↦
          elim rest [
            | inl before ↦ absurd (earlier ks i j k l distinct before low_j at_i at_j same)
            | inr behind ↦ absurd (earlier ks j i l k distinct behind low_i at_j at_i (sym same))
          ]
    ]

-- different keys have different names
pub are_distinct : (ks : List (Vec ℕ)) → IsDistinct key_eq ks → AreDistinct (names_of ks)
are_distinct ks distinct i j name at_i at_j =
    elim (slice_get_cases ks i).1 [
      | inl h ↦
          elim (slice_get_cases ks j).1 [
            | inl k ↦
                let first : h.0.items ≡ name = same_some (sym (ap (option_map (λ (v : Vec ℕ). v.items)) h.2) ∙ sym (slice_get-map (λ (v : Vec ℕ). v.items) ks i) ∙ at_i) in
                let second : k.0.items ≡ name = same_some (sym (ap (option_map (λ (v : Vec ℕ). v.items)) k.2) ∙ sym (slice_get-map (λ (v : Vec ℕ). v.items) ks j) ∙ at_j) in
                one_place ks i j h.0 k.0 distinct h.1 k.1 h.2 k.2 (first ∙ sym second)
            | inr k ↦ absurd (none_or_some (sym (ap (option_map (λ (v : Vec ℕ). v.items)) k.1) ∙ sym (slice_get-map (λ (v : Vec ℕ). v.items) ks j) ∙ at_j))
          ]
      | inr h ↦ absurd (none_or_some (sym (ap (option_map (λ (v : Vec ℕ). v.items)) h.1) ∙ sym (slice_get-map (λ (v : Vec ℕ). v.items) ks i) ∙ at_i))
    ]

stands_last : (names : List (List ℕ)) (name : List ℕ) → slice_get (names ++ name ∷ []) (length names) ≡ Some name
stands_last [] name = refl
stands_last (x ∷ xs) name = stands_last xs name

-- a new name has the next number
pub numbers_new : (old new : List (List ℕ)) (number : ℕ) (name : List ℕ) → has_name old name ≡ false → new ≡ with_name old name → number ≡ length old → Numbers old new number name
numbers_new old new number name absent is next =
    let is' : new ≡ old ++ name ∷ [] = is ∙ ap (λ b. if b then old else old ++ name ∷ []) absent in
    record { grows = (name ∷ [], is'); stands = ap (λ l. slice_get l number) is' ∙ ap (slice_get (old ++ name ∷ [])) next ∙ stands_last old name }

-- a name stands at the place where it is found
pub stands_at : (names : List (List ℕ)) (name : List ℕ) (i : ℕ) → place_of names name ≡ Some i → slice_get names i ≡ Some name
stands_at [] name i e = cc
stands_at (x ∷ xs) name i e = by (bytes_eq name x) (place_of xs name) i (bytes_eq-Decides name x).0 (λ j h. stands_at xs name j h) e
  where
    by : (b : Bool) (o : Option ℕ) (k : ℕ) → (b ≡ true → name ≡ x) → ((j : ℕ) → o ≡ Some j → slice_get xs j ≡ Some name) → (if b then Some 0 else option_map suc o) ≡ Some k → slice_get (x ∷ xs) k ≡ Some name
    by true o zero is later h = ap Some (sym (is refl))
    by true o (suc k) is later h = cc
    by false None k is later h = cc
    by false (Some j) zero is later h = cc
    by false (Some j) (suc k) is later h = (let z : j ≡ k = cc in ap (λ l. slice_get xs l) (sym z)) ∙ later j refl

-- a name that is found nowhere isn't there
pub has_no_place : (names : List (List ℕ)) (name : List ℕ) → place_of names name ≡ None → has_name names name ≡ false
has_no_place [] name e = refl
has_no_place (x ∷ xs) name e = by (bytes_eq name x) (place_of xs name) (has_no_place xs name) e
  where
    by : (b : Bool) (o : Option ℕ) → (o ≡ None → has_name xs name ≡ false) → (if b then Some 0 else option_map suc o) ≡ None → (b || has_name xs name) ≡ false
    by true o rest h = absurd (none_or_some (sym h))
    by false None rest h = rest refl
    by false (Some i) rest h = absurd (none_or_some (sym h))
