use Rattle.std.proofs.Common.{◌≡◌, drop}
use Rattle.awk_grammar.specs.View.{statements_of}
use Rattle.awk_merging.proofs.same.statements.+statements.Given as goal

abbrev pub invariant-same_statements-loop-i : goal.invariant-same_statements-loop-i
invariant-same_statements-loop-i l = statements_of (drop l.i l.all) ≡ statements_of (drop l.i l.others)
    → statements_of l.all ≡ statements_of l.others
