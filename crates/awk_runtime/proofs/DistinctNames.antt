-- Names of which no two are the same.
use Rattle.std.proofs.Common.{◌≡◌, ◌⊎◌, inl, inr, ℕ, zero, suc, Bool, true, false, ◌||◌, List, [], ◌∷◌, ◌++◌, length, Some, slice_get, sym, ap, ◌∙◌, true≢false, refl}
use Rattle.std.specs.Prelude.{bytes_eq, codes, filter, map, if◌then◌else◌}
use Rattle.std.proofs.lemmas.Slice.Eq.{bytes_eq-Decides}
use Rattle.awk_grammar.specs.Tree.{Item}
use Rattle.awk_kinds.specs.declared.variable.Variable.{Variable}
use Rattle.awk_kinds.specs.declared.variable.Variable.TheVariants.{Global, Parameter}
use Rattle.awk_kinds.specs.SpecialNames.{special_arrays}
use Rattle.awk_kinds.specs.Kinds.{globals_among, array_names_of, in_array_use, uses_in, is_member, arrays_of}
use Rattle.awk_kinds.specs.Names.{has_name, with_name, AreDistinct}

get-snoc : (names : List (List ℕ)) (x : List ℕ) (i : ℕ) (n : List ℕ) → slice_get (names ++ x ∷ []) i ≡ Some n → (slice_get names i ≡ Some n) ⊎ ((i ≡ length names) × (x ≡ n))
get-snoc [] x zero n e = inr (refl, cc)
get-snoc [] x (suc i) n e = cc
get-snoc (y ∷ names) x zero n e = inl e
get-snoc (y ∷ names) x (suc i) n e = elim (get-snoc names x i n e) [ inl h ↦ inl h | inr h ↦ inr (ap suc h.0, h.1) ]

there : (names : List (List ℕ)) (i : ℕ) (x : List ℕ) → slice_get names i ≡ Some x → has_name names x ≡ true
there [] i x h = cc
there (y ∷ names) zero x h =
    let same : x ≡ y = cc in
    ap (λ b. b || has_name names x) ((bytes_eq-Decides x y).1 same)
there (y ∷ names) (suc i) x h = by (bytes_eq x y) (there names i x h)
  where
    by : (b : Bool) → has_name names x ≡ true → (b || has_name names x) ≡ true
    by true e = refl
    by false e = e

-- a name more, unless it is there
pub distinct_added : (names : List (List ℕ)) (x : List ℕ) → AreDistinct names → AreDistinct (with_name names x)
distinct_added names x distinct = by (has_name names x) refl
  where
    not_there : (i : ℕ) (n : List ℕ) → has_name names x ≡ false → slice_get names i ≡ Some n → x ≡ n → ⊥
    not_there i n e at same = true≢false (sym (there names i x (at ∙ ap Some (sym same))) ∙ e)

    by : (b : Bool) → has_name names x ≡ b → AreDistinct (if b then names else names ++ x ∷ [])
    by true e = distinct
    by false e = λ i j n at_i at_j.
        elim (get-snoc names x i n at_i) [
          | inl h ↦ elim (get-snoc names x j n at_j) [ inl k ↦ distinct i j n h k | inr k ↦ absurd (not_there i n e h k.1) ]
          | inr h ↦ elim (get-snoc names x j n at_j) [ inl k ↦ absurd (not_there j n e k h.1) | inr k ↦ h.0 ∙ sym k.0 ]
        ]

pub none_distinct : AreDistinct []
none_distinct i j n at_i at_j = cc

globals_distinct : (names : List (List ℕ)) (vs : List Variable) → AreDistinct names → AreDistinct (globals_among names vs)
globals_distinct names [] distinct = distinct
globals_distinct names (Global x ∷ vs) distinct = globals_distinct (with_name names x) vs (distinct_added names x distinct)
globals_distinct names (Parameter f x ∷ vs) distinct = globals_distinct names vs distinct

-- the arrays of a program
pub arrays_distinct : (items : List Item) → AreDistinct (array_names_of items)
arrays_distinct items = globals_distinct special_arrays (filter (is_member (arrays_of items)) (map in_array_use (uses_in items))) (distinct_added (codes "ARGV" ∷ []) (codes "ENVIRON") (distinct_added [] (codes "ARGV") none_distinct))
