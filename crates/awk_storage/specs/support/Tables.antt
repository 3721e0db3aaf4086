-- The arrays by number.
use Rattle.std.specs.Prelude.{◌≡◌, ℕ, List, [], ◌∷◌, unwrap_or, slice_get}
use Rattle.awk_value.specs.Arrays.{Array}

-- the array of a number; one that isn't there is empty
abbrev pub array_of : List Array → ℕ → Array
array_of arrays n = unwrap_or (slice_get arrays n) []

-- arrays without elements
abbrev pub AreEmpty : List Array → Type 0
AreEmpty [] = Unit {0}
AreEmpty (array ∷ arrays) = (array ≡ []) × AreEmpty arrays
