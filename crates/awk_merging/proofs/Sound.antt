-- Tables of which no key is there twice and the numbers are in range, and sums by their names.
use Rattle.std.proofs.Common.{◌≡◌, ◌≢◌, inl, inr, ℕ, suc, ℤ, ◌+ℤ◌, Bool, true, false, ◌||◌, List, [], ◌∷◌, refl, sym, ap, ◌∙◌, subst, bytes_eq, arith}
use Rattle.std.proofs.lemmas.Bool.{cases_Bool, or_cases, cond-true, cond-false}
use Rattle.awk_value.specs.Arithmetic.{is_in_range}
use Rattle.awk_kinds.specs.Names.{has_name}
use Rattle.awk_semantics.specs.definitions.Primitives.{number_in}
use Rattle.awk_merging.specs.definitions.Gathering.{Table, updated, replayed, sums}
use Rattle.awk_merging.specs.definitions.Sums.{Sum, ByKey, Alone, name_of_sum, is_taken}
use Rattle.awk_merging.specs.definitions.LawOfReading.{IsAmong, IsElsewhere, IsAside, key_for, number_at}
use Rattle.awk_merging.specs.definitions.LawOfStates.{Cell, Tables, with_cell}
use Rattle.awk_merging.specs.definitions.LawOfDerived.{IsOneOf}
use Rattle.awk_merging.specs.definitions.Mergeable.{is_sum, is_array_sum, is_variable_sum}
use Rattle.awk_merging.specs.definitions.LawOfRules.{IsSound, ahead}
use Rattle.awk_merging.proofs.Gathering.{IsOrderly, same_key, own_key, not_both, apart_turned, replay_one_more, free_still}
use Rattle.awk_merging.proofs.Ways.{sums_replay}
use Rattle.awk_merging.proofs.ProgramSums.{AreProper}
use Rattle.awk_merging.proofs.SumArrays.{from_zero}

pub orderly : (table : Table ℤ) → IsSound table → IsOrderly table
orderly [] sound = tt
orderly (x ∷ xs) sound = (sound.1, orderly xs sound.2)

pub sound_updated : (table : Table ℤ) (key : List ℕ) (n : ℤ) → IsSound table → is_in_range (number_at table key +ℤ n) ≡ true → IsSound (updated sums table key n)
sound_updated [] key n sound fits = (ap is_in_range (sym (from_zero n)) ∙ fits, tt, tt)
sound_updated (x ∷ xs) key n sound fits = elim (cases_Bool (bytes_eq key x.0)) [
  | inl is ↦ subst IsSound (sym (cond-true _ _ _ is)) (ap (λ (z : ℤ). is_in_range (z +ℤ n)) (sym (cond-true _ _ _ is)) ∙ fits, sound.1, sound.2)
  | inr not ↦ subst IsSound (sym (cond-false _ _ _ not)) (
    sound.0,
    free_still sums sums_replay xs x.0 key n (apart_turned key x.0 not) sound.1,
    sound_updated xs key n sound.2 (ap (λ (z : ℤ). is_in_range (z +ℤ n)) (sym (cond-false _ _ _ not)) ∙ fits),
  )
]

-- an update here is one of what is ahead
ahead_at : (before tables : Tables) (x : Cell) → ((name : List ℕ) → IsSound (tables name)) → (name : List ℕ) → with_cell (ahead before tables) x name ≡ ahead before (with_cell tables x) name
ahead_at before tables x sound name = elim (cases_Bool (bytes_eq (name_of_sum x.sum) name)) [
  | inl is ↦
      cond-true _ _ _ is
      ∙ sym (replay_one_more sums sums_replay (before name) (tables name) (key_for x.sum x.key) x.number (orderly (tables name) (sound name)))
      ∙ ap (λ (t : Table ℤ). replayed sums (before name) t) (sym (cond-true _ _ _ is))
  | inr not ↦ cond-false _ _ _ not ∙ ap (λ (t : Table ℤ). replayed sums (before name) t) (sym (cond-false _ _ _ not))
]

pub ahead_cell : (before tables : Tables) (x : Cell) → ((name : List ℕ) → IsSound (tables name)) → with_cell (ahead before tables) x ≡ ahead before (with_cell tables x)
ahead_cell before tables x sound = λ i name. ahead_at before tables x sound name i

pub sound_cell : (tables : Tables) (x : Cell) → ((name : List ℕ) → IsSound (tables name)) → is_in_range (number_at (tables (name_of_sum x.sum)) (key_for x.sum x.key) +ℤ x.number) ≡ true → (name : List ℕ) → IsSound (with_cell tables x name)
sound_cell tables x sound fits name = elim (cases_Bool (bytes_eq (name_of_sum x.sum) name)) [
  | inl is ↦ subst IsSound (sym (cond-true _ _ _ is))
      (subst (λ (z : List ℕ). IsSound (updated sums (tables z) (key_for x.sum x.key) x.number)) (same_key (name_of_sum x.sum) name is) (sound_updated (tables (name_of_sum x.sum)) (key_for x.sum x.key) x.number (sound (name_of_sum x.sum)) fits))
  | inr not ↦ subst IsSound (sym (cond-false _ _ _ not)) (sound name)
]

-- sums by their names

pub one_array : (xs : List Sum) (a : List ℕ) → is_array_sum xs a ≡ true → IsOneOf (ByKey a) xs
one_array [] a is = cc
one_array (Alone y ∷ ys) a is = inr (one_array ys a is)
one_array (ByKey b ∷ ys) a is = elim (or_cases (bytes_eq b a) (is_array_sum ys a) is) [
  | inl same ↦ inl (ap ByKey (sym (same_key b a same)))
  | inr later ↦ inr (one_array ys a later)
]

pub one_variable : (xs : List Sum) (x : List ℕ) → is_variable_sum xs x ≡ true → IsOneOf (Alone x) xs
one_variable [] x is = cc
one_variable (ByKey b ∷ ys) x is = inr (one_variable ys x is)
one_variable (Alone y ∷ ys) x is = elim (or_cases (bytes_eq y x) (is_variable_sum ys x) is) [
  | inl same ↦ inl (ap Alone (sym (same_key y x same)))
  | inr later ↦ inr (one_variable ys x later)
]

pub or_false : (a b : Bool) → a ≡ false → b ≡ false → (a || b) ≡ false
or_false a b e f = rw (e, f) refl

pub or_left : (a b : Bool) → a ≡ true → (a || b) ≡ true
or_left a b e = rw e refl

pub or_right : (a b : Bool) → b ≡ true → (a || b) ≡ true
or_right true b e = refl
or_right false b e = e

pub one_named : (x : Sum) (xs : List Sum) → IsOneOf x xs → is_sum xs (name_of_sum x) ≡ true
one_named x [] is = absurd is
one_named x (y ∷ ys) (inl same) = or_left _ _ (subst (λ (z : Sum). bytes_eq (name_of_sum z) (name_of_sum x) ≡ true) same (own_key (name_of_sum x)))
one_named x (y ∷ ys) (inr later) = or_right _ _ (one_named x ys later)

-- another name than a sum's is no variable of it
pub is_aside : (x : Sum) (z : List ℕ) → bytes_eq (name_of_sum x) z ≡ false → IsAside x z
is_aside (ByKey a) z apart = tt
is_aside (Alone y) z apart = apart

variable_of_one : (x : List ℕ) (xs : List Sum) → IsOneOf (Alone x) xs → is_variable_sum xs x ≡ true
variable_of_one x [] is = absurd is
variable_of_one x (y ∷ ys) (inl same) = subst (λ (z : Sum). is_variable_sum (z ∷ ys) x ≡ true) same (or_left _ _ (own_key x))
variable_of_one x (Alone y ∷ ys) (inr later) = or_right _ _ (variable_of_one x ys later)
variable_of_one x (ByKey a ∷ ys) (inr later) = variable_of_one x ys later

pub not_variable : (x : Sum) (xs : List Sum) (z : List ℕ) → IsOneOf x xs → is_variable_sum xs z ≡ false → IsAside x z
not_variable (ByKey a) xs z is not = tt
not_variable (Alone y) xs z is not = elim (cases_Bool (bytes_eq y z)) [
  | inl same ↦ absurd (not_both (is_variable_sum xs z) (ap (is_variable_sum xs) (sym (same_key y z same)) ∙ variable_of_one y xs is) not)
  | inr other ↦ other
]

-- what no sum is named, is no variable's sum
pub no_variable_sum : (xs : List Sum) (x : List ℕ) → is_sum xs x ≡ false → is_variable_sum xs x ≡ false
no_variable_sum [] x not = refl
no_variable_sum (Alone a ∷ ys) x not = elim (cases_Bool (bytes_eq a x)) [
  | inl same ↦ absurd (not_both (is_sum (Alone a ∷ ys) x) (or_left _ _ same) not)
  | inr other ↦ or_false _ _ other (no_variable_sum ys x (sym (ap (λ (b : Bool). b || is_sum ys x) other) ∙ not))
]
no_variable_sum (ByKey y ∷ ys) x not = elim (cases_Bool (is_sum ys x)) [
  | inl later ↦ absurd (not_both (is_sum (ByKey y ∷ ys) x) (or_right _ _ later) not)
  | inr none ↦ no_variable_sum ys x none
]

-- what no sum is named, is no array's sum
pub no_array_sum : (xs : List Sum) (x : List ℕ) → is_sum xs x ≡ false → is_array_sum xs x ≡ false
no_array_sum [] x not = refl
no_array_sum (ByKey a ∷ ys) x not = elim (cases_Bool (bytes_eq a x)) [
  | inl same ↦ absurd (not_both (is_sum (ByKey a ∷ ys) x) (or_left _ _ same) not)
  | inr other ↦ or_false _ _ other (no_array_sum ys x (sym (ap (λ (b : Bool). b || is_sum ys x) other) ∙ not))
]
no_array_sum (Alone y ∷ ys) x not = elim (cases_Bool (is_sum ys x)) [
  | inl later ↦ absurd (not_both (is_sum (Alone y ∷ ys) x) (or_right _ _ later) not)
  | inr none ↦ no_array_sum ys x none
]

-- what no sum is named, is another name than each sum's
pub not_named : (x : Sum) (xs : List Sum) (z : List ℕ) → IsOneOf x xs → is_sum xs z ≡ false → bytes_eq (name_of_sum x) z ≡ false
not_named x xs z is not = elim (cases_Bool (bytes_eq (name_of_sum x) z)) [
  | inl same ↦ absurd (not_both (is_sum xs z) (ap (is_sum xs) (sym (same_key (name_of_sum x) z same)) ∙ one_named x xs is) not)
  | inr other ↦ other
]

pub array_of_one : (a : List ℕ) (xs : List Sum) → IsOneOf (ByKey a) xs → is_array_sum xs a ≡ true
array_of_one a [] is = absurd is
array_of_one a (y ∷ ys) (inl same) = subst (λ (z : Sum). is_array_sum (z ∷ ys) a ≡ true) same (or_left _ _ (own_key a))
array_of_one a (ByKey b ∷ ys) (inr later) = or_right _ _ (array_of_one a ys later)
array_of_one a (Alone y ∷ ys) (inr later) = array_of_one a ys later

pub not_array : (x : Sum) (xs : List Sum) (z : List ℕ) → IsOneOf x xs → is_array_sum xs z ≡ false → IsElsewhere x z
not_array (Alone y) xs z is not = tt
not_array (ByKey a) xs z is not = elim (cases_Bool (bytes_eq a z)) [
  | inl same ↦ absurd (not_both (is_array_sum xs z) (ap (is_array_sum xs) (sym (same_key a z same)) ∙ array_of_one a xs is) not)
  | inr other ↦ other
]

apart_taken : (x y : List ℕ) → is_taken x ≡ false → is_taken y ≡ true → bytes_eq x y ≡ false
apart_taken x y proper taken = elim (cases_Bool (bytes_eq x y)) [
  | inl same ↦ absurd (not_both (is_taken y) taken (ap is_taken (sym (same_key x y same)) ∙ proper))
  | inr other ↦ other
]

-- a name that is taken is no sum's
pub not_sum : (xs : List Sum) (x : List ℕ) → AreProper xs → is_taken x ≡ true → is_sum xs x ≡ false
not_sum [] x proper taken = refl
not_sum (y ∷ ys) x proper taken = or_false _ _ (apart_taken (name_of_sum y) x proper.0 taken) (not_sum ys x proper.1 taken)

-- another name than an array's has another number, whether it has one or not
pub other_number : (names : List (List ℕ)) (a x : List ℕ) → has_name names a ≡ true → bytes_eq a x ≡ false → number_in names x ≢ number_in names a
other_number [] a x has apart same = cc
other_number (y ∷ ys) a x has apart same = elim (cases_Bool (bytes_eq a y)) [
  | inl a_is ↦ elim (cases_Bool (bytes_eq x y)) [
    | inl x_is ↦ not_both (bytes_eq a x) (rw (same_key a y a_is, same_key x y x_is) (own_key y)) apart
    | inr x_not ↦ let bad : suc (number_in ys x) ≡ 0 = sym (cond-false _ _ _ x_not) ∙ same ∙ cond-true _ _ _ a_is in absurd (omega (arith, bad))
  ]
  | inr a_not ↦ elim (cases_Bool (bytes_eq x y)) [
    | inl x_is ↦ let bad : 0 ≡ suc (number_in ys a) = sym (cond-true _ _ _ x_is) ∙ same ∙ cond-false _ _ _ a_not in absurd (omega (arith, bad))
    | inr x_not ↦
        let next : suc (number_in ys x) ≡ suc (number_in ys a) = sym (cond-false _ _ _ x_not) ∙ same ∙ cond-false _ _ _ a_not in
        other_number ys a x (rw a_not at has) apart (omega (arith, next))
  ]
]

pub among_one : (x : Sum) (xs : List Sum) → IsAmong x xs → IsOneOf x xs
among_one x [] among = absurd among
among_one x (y ∷ ys) (inl is) = inl is.0
among_one x (y ∷ ys) (inr later) = inr (among_one x ys later.1)
