use Rattle.std.proofs.Common.{◌≡◌, drop}
use Rattle.awk_grammar.specs.View.{statements_of}
use Rattle.awk_merging.specs.definitions.Sums.{print_sums}
use Rattle.awk_merging.specs.support.SumsOf.{sums_of}
use Rattle.awk_merging.proofs.derived.are_sum_prints.Given as goal

abbrev pub invariant-loop-sum : goal.invariant-loop-sum
invariant-loop-sum l = statements_of l.rest ≡ print_sums (sums_of (drop l.sum-index l.sums))
    → statements_of l.block ≡ print_sums (sums_of l.sums)
