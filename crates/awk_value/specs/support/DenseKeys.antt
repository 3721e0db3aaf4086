-- How the keys that are numbers are kept: those from 0 on in a list, each at its own place.
use Rattle.std.specs.Prelude.{◌≡◌, ℕ, suc, ℤ, pos, ◌^◌, ◌-◌, Bool, false, if◌then◌else◌, List, [], ◌∷◌, nat_eq, IsPermutation, slice_get, Option, Some, None}
use Rattle.std.specs.Map.{set_value}
use Rattle.std.specs.Ordering.{int_eq}
use Rattle.awk_value.specs.declared.value.Value.{Value}
use Rattle.awk_value.specs.declared.value.Value.TheVariants.{Nothing}
use Rattle.awk_value.specs.declared.entry.Entry.{Entry}

-- what stands at a place whose number is no key
abbrev pub gap : Entry
gap = record { stamp = 2 ^ 64 - 1; value = Nothing }

abbrev pub is_gone : Entry → Bool
is_gone e = nat_eq e.stamp (2 ^ 64 - 1)

-- the keys among the numbers from n on, with their entries
abbrev pub numbered : ℕ → List Entry → List (ℤ × Entry)
numbered n [] = []
numbered n (e ∷ es) = if is_gone e then numbered (suc n) es else (pos n, e) ∷ numbered (suc n) es

-- the place is that of the number, which is a key
pub record IsPlaceOf (es : List Entry) (place : ℕ) (key : ℤ) : Type 0 where
  pub entry : Entry
  pub number : key ≡ pos place
  pub there : slice_get es place ≡ Some entry
  pub kept : is_gone entry ≡ false

-- the entry is taken out of the old ones, which may change their places
pub record IsTaken {K X : Type 0} (x : X) (old new : List (K × X)) : Type 0 where
  pub key : K
  pub moved : IsPermutation old ((key, x) ∷ new)

-- the entry that is found has the value
abbrev pub revalued : Entry → Value → Entry
revalued e v = record { stamp = e.stamp; value = v }

abbrev pub with_value : Option Entry → ℤ → Value → List (ℤ × Entry) → List (ℤ × Entry)
with_value None key v es = es
with_value (Some e) key v es = set_value (int_eq key) es (revalued e v)
