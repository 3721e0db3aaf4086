use Rattle.std.proofs.Common.{◌≡◌, drop}
use Rattle.awk_grammar.specs.View.{statements_of}
use Rattle.awk_pieces.specs.definitions.Pieceable.{is_own}
use Rattle.awk_merging.specs.definitions.Mergeable.{sums_in_all}
use Rattle.awk_merging.specs.support.SumsOf.{sums_of}
use Rattle.awk_merging.specs.support.WithSums.{with_sums}
use Rattle.awk_merging.proofs.sums.+statements.Given as goal

abbrev pub invariant-add_of_all-loop-s : goal.invariant-add_of_all-loop-s
invariant-add_of_all-loop-s l =
    with_sums (sums_of l.sums.items) (sums_in_all (is_own l.names) (statements_of (drop l.s-index l.all)))
    ≡ with_sums (sums_of l.initial.sums.items) (sums_in_all (is_own l.names) (statements_of l.all))
