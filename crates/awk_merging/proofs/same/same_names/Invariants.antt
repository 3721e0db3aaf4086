use Rattle.std.proofs.Common.{◌≡◌, drop}
use Rattle.awk_merging.proofs.same.same_names.Given as goal

abbrev pub invariant-loop-i : goal.invariant-loop-i
invariant-loop-i l = drop l.i l.list ≡ drop l.i l.others → l.list ≡ l.others
