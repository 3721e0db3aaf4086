use Rattle.std.proofs.Common.{◌≡◌, drop}
use Rattle.awk_grammar.specs.View.{exprs_of}
use Rattle.awk_merging.specs.definitions.Mergeable.{all_read_sums}
use Rattle.awk_merging.specs.support.Others.{shown_in}
use Rattle.awk_merging.specs.support.SumsOf.{sums_of}
use Rattle.awk_merging.proofs.end_actions.+expressions.Given as goal

abbrev pub invariant-all_read_sums-loop-e : goal.invariant-all_read_sums-loop-e
invariant-all_read_sums-loop-e l =
    all_read_sums (sums_of l.others.sums.now) (shown_in l.others.known.now) (exprs_of (drop l.e-index l.list)) ≡ all_read_sums (sums_of l.others.sums.now) (shown_in l.others.known.now) (exprs_of l.list)
