use Rattle.std.proofs.Common.{refl}
use Rattle.awk_evaluator.proofs.Parts.{part_done}
use Rattle.awk_evaluator.proofs.Appending.{still_leaves}
use Rattle.awk_evaluator.proofs.machine.Machine.append_any_operands.Goals as goal

pub returns : goal.returns
returns c = part_done _ c.is_done.ensures.came (still_leaves (record { operands = refl; calls = refl; runtime = refl }) c.is_done.ensures.kept _ c.append_read-appended.ensures)
