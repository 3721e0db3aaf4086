use Rattle.std.proofs.Common.{sym}
use Rattle.awk_evaluator.proofs.QuickMoves.{related_with_hand}
use Rattle.awk_evaluator.proofs.machine.Machine.relate_value_with.Goals as goal

pub returns : goal.returns
returns c = rw c.in-Infix.is (related_with_hand c.in-Infix.infix c.relate.result (sym (c.in_ok-top.ensures {u = tt}).top) (c.in_ok-value_at.ensures {u = tt}) c.relate.ensures)
