use Rattle.std.proofs.Common.{◌≡◌, List, ◌++◌, drop}
use Rattle.awk_grammar.specs.Tree.{Item}
use Rattle.awk_grammar.specs.View.{items_of}
use Rattle.awk_merging.specs.definitions.Sums.{read_sums}
use Rattle.awk_merging.specs.support.SumsOf.{sums_of}
use Rattle.awk_merging.proofs.derived.behind_read_sums.Given as goal

abbrev pub invariant-loop-sum : goal.invariant-loop-sum
invariant-loop-sum l = (ys : List Item) → items_of l.rest ≡ read_sums (sums_of (drop l.sum-index l.sums)) ++ ys
    → items_of l.derived ≡ read_sums (sums_of l.sums) ++ ys
