-- Sums that are found one after another: each name is kept once.
use Rattle.std.specs.Prelude.{if◌then◌else◌, List, [], ◌∷◌, ◌++◌}
use Rattle.awk_merging.specs.definitions.Sums.{Sum, name_of_sum}
use Rattle.awk_merging.specs.definitions.Mergeable.{is_sum}

abbrev pub with_sum : List Sum → Sum → List Sum
with_sum sums x = if is_sum sums (name_of_sum x) then sums else sums ++ x ∷ []

abbrev pub with_sums : List Sum → List Sum → List Sum
with_sums sums [] = sums
with_sums sums (x ∷ xs) = with_sums (with_sum sums x) xs
