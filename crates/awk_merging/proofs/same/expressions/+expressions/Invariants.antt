use Rattle.std.proofs.Common.{◌≡◌, drop}
use Rattle.awk_grammar.specs.View.{exprs_of}
use Rattle.awk_merging.proofs.same.expressions.+expressions.Given as goal

abbrev pub invariant-same_exprs-loop-i : goal.invariant-same_exprs-loop-i
invariant-same_exprs-loop-i l = exprs_of (drop l.i l.list) ≡ exprs_of (drop l.i l.others)
    → exprs_of l.list ≡ exprs_of l.others
