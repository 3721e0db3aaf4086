-- The sums that the code keeps, as sums of the definitions.
use Rattle.std.specs.Prelude.{ℕ, Bool, false, List, map, bytes_eq}
use Rattle.awk_merging.specs.declared.sums.Sum.{Sum as KeptSum}
use Rattle.awk_merging.specs.declared.sums.Sum.TheVariants as kept
use Rattle.awk_merging.specs.definitions.Sums.{Sum, ByKey, Alone}

abbrev pub sum_of : KeptSum → Sum
sum_of (kept.ByKey array) = ByKey array
sum_of (kept.Alone variable) = Alone variable

abbrev pub sums_of : List KeptSum → List Sum
sums_of sums = map sum_of sums

-- it is the sum of the array, or of the variable, of this name
abbrev pub is_array : Sum → List ℕ → Bool
is_array (ByKey array) x = bytes_eq array x
is_array (Alone variable) x = false

abbrev pub is_variable : Sum → List ℕ → Bool
is_variable (ByKey array) x = false
is_variable (Alone variable) x = bytes_eq variable x
