-- Arrays that hold the numbers of tables, as a number is added to one.
use Rattle.std.proofs.Common.{◌≡◌, inl, inr, ℕ, ℤ, ◌+ℤ◌, pos, Bool, true, false, List, [], ◌∷◌, ◌++◌, Ok, refl, sym, ap, ◌∙◌, bytes_eq, arith}
use Rattle.std.specs.Prelude.{is_some, unwrap_or}
use Rattle.std.specs.Map.{set_value}
use Rattle.std.proofs.lemmas.Bool.{cases_Bool, cond-true, cond-false}
use Rattle.std.proofs.lemmas.Int.{ints}
use Rattle.awk_value.specs.declared.value.Value.{Value}
use Rattle.awk_value.specs.declared.value.Value.TheVariants as value
use Rattle.awk_value.specs.Values.{num_of}
use Rattle.awk_value.specs.Arrays.{Array, value_at, with_pair, with_key}
use Rattle.awk_merging.specs.definitions.Gathering.{Table, updated, sums}
use Rattle.awk_merging.specs.definitions.Sums.{numbers}
use Rattle.awk_merging.specs.definitions.LawOfReading.{number_at}
use Rattle.awk_merging.proofs.Gathering.{own_key}

pub from_zero : (n : ℤ) → pos 0 +ℤ n ≡ n
from_zero n = omega (arith, ints)

-- what is at a key counts as the number there
pub number_found : (table : Table ℤ) (key : List ℕ) → num_of (unwrap_or (value_at (numbers table) key) value.Nothing) ≡ Ok (number_at table key)
number_found [] key = refl
number_found (x ∷ xs) key = elim (cases_Bool (bytes_eq key x.0)) [
  | inl is ↦ rw is refl
  | inr not ↦ rw not (number_found xs key)
]

abbrev has : Array → List ℕ → Bool
has array key = is_some (value_at array key)

-- at a key that is there
set_there : (table : Table ℤ) (key : List ℕ) (n : ℤ) → has (numbers table) key ≡ true → set_value (bytes_eq key) (numbers table) (value.Number (number_at table key +ℤ n)) ≡ numbers (updated sums table key n)
set_there [] key n there = cc
set_there (x ∷ xs) key n there = elim (cases_Bool (bytes_eq key x.0)) [
  | inl is ↦ rw is refl
  | inr not ↦ rw not (ap (λ (l : Array). (x.0, value.Number x.1) ∷ l) (set_there xs key n (sym (ap is_some (cond-false _ _ _ not)) ∙ there)))
]

-- at a new one, which is made first
abbrev with_new : Array → List ℕ → Value → Array
with_new array key v = array ++ (key, v) ∷ []

new_there : (table : Table ℤ) (key : List ℕ) (v : Value) → has (with_new (numbers table) key v) key ≡ true
new_there [] key v = rw (own_key key) refl
new_there (x ∷ xs) key v = elim (cases_Bool (bytes_eq key x.0)) [
  | inl is ↦ rw is refl
  | inr not ↦ rw not (new_there xs key v)
]

set_new : (table : Table ℤ) (key : List ℕ) (v : Value) (n : ℤ) → has (numbers table) key ≡ false → set_value (bytes_eq key) (with_new (numbers table) key v) (value.Number (number_at table key +ℤ n)) ≡ numbers (updated sums table key n)
set_new [] key v n free = rw (own_key key, from_zero n) refl
set_new (x ∷ xs) key v n free = elim (cases_Bool (bytes_eq key x.0)) [
  | inl is ↦ let bad : true ≡ false = sym (ap is_some (cond-true _ _ _ is)) ∙ free in cc
  | inr not ↦ rw not (ap (λ (l : Array). (x.0, value.Number x.1) ∷ l) (set_new xs key v n (sym (ap is_some (cond-false _ _ _ not)) ∙ free)))
]

pub number_stored : (table : Table ℤ) (key : List ℕ) (n : ℤ) → with_pair (with_key (numbers table) key) key (value.Number (number_at table key +ℤ n)) ≡ numbers (updated sums table key n)
number_stored table key n = elim (cases_Bool (has (numbers table) key)) [
  | inl there ↦ rw (there, there) (set_there table key n there)
  | inr free ↦ rw (free, new_there table key value.Nothing) (set_new table key value.Nothing n free)
]

has_updated : (table : Table ℤ) (key : List ℕ) (n : ℤ) → has (numbers (updated sums table key n)) key ≡ true
has_updated [] key n = rw (own_key key) refl
has_updated (x ∷ xs) key n = elim (cases_Bool (bytes_eq key x.0)) [
  | inl is ↦ rw (is, is) refl
  | inr not ↦ rw (not, not) (has_updated xs key n)
]

-- to read what was stored makes no new element
pub key_stays : (table : Table ℤ) (key : List ℕ) (n : ℤ) → with_key (numbers (updated sums table key n)) key ≡ numbers (updated sums table key n)
key_stays table key n = cond-true _ _ _ (has_updated table key n)
