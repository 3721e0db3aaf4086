use Rattle.std.proofs.Common.{◌≡◌, ◌++◌, replicate}
use Rattle.awk_text.proofs.field.add_run.Given as goal

abbrev pub invariant-loop-i : goal.invariant-loop-i
invariant-loop-i l = l.out.items ≡ l.fn.out.items ++ replicate l.i l.byte
