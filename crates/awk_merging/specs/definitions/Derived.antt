-- The two programs that are derived of one that sums up: one for each piece of an input, and one for what these print, joined
-- in order.
use Rattle.std.specs.Prelude.{List, [], ◌∷◌, ◌++◌}
use Rattle.awk_grammar.specs.Tree.{Item, Begin, End}
use Rattle.awk_merging.specs.definitions.Sums.{print_sums, reading_rules}
use Rattle.awk_merging.specs.definitions.Mergeable.{sums_of_program}

abbrev pub without_ends : List Item → List Item
without_ends [] = []
without_ends (End block ∷ xs) = without_ends xs
without_ends (x ∷ xs) = x ∷ without_ends xs

abbrev pub begins_of : List Item → List Item
begins_of [] = []
begins_of (Begin block ∷ xs) = Begin block ∷ begins_of xs
begins_of (x ∷ xs) = begins_of xs

abbrev pub ends_of : List Item → List Item
ends_of [] = []
ends_of (End block ∷ xs) = End block ∷ ends_of xs
ends_of (x ∷ xs) = ends_of xs

-- the program for each piece: its own BEGIN and rules, and then the sums are printed
abbrev pub each_of : List Item → List Item
each_of items = without_ends items ++ End (print_sums (sums_of_program items)) ∷ []

-- the program for what they print: its own BEGIN, rules that add the sums, and its own END
abbrev pub all_of : List Item → List Item
all_of items = begins_of items ++ (reading_rules (sums_of_program items) ++ ends_of items)
