use Rattle.awk_evaluator.proofs.QuickMoves.{related_hand}
use Rattle.awk_evaluator.proofs.machine.Machine.relate_values.Goals as goal

pub returns : goal.returns
returns c = rw c.in-Infix.is (related_hand c.in-Infix.infix c.relate.result (c.in_ok-value_at.ensures {u = tt}) (c.in_ok-value_at-2.ensures {u = tt}) c.relate.ensures)
