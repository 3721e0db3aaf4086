use Rattle.std.proofs.Common.{◌≡◌, drop}
use Rattle.awk_grammar.specs.View.{statements_of}
use Rattle.awk_merging.specs.definitions.Mergeable.{all_only_set_others}
use Rattle.awk_merging.specs.support.SumsOf.{sums_of}
use Rattle.awk_merging.proofs.mergeable.all_only_set_others.Given as goal

abbrev pub invariant-loop-s : goal.invariant-loop-s
invariant-loop-s l =
    all_only_set_others (sums_of l.sums) (statements_of (drop l.s-index l.all))
    ≡ all_only_set_others (sums_of l.sums) (statements_of l.all)
