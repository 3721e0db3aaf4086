use Rattle.awk_evaluator.proofs.Keys.{runs_leaves}
use Rattle.awk_evaluator.proofs.machine.Machine.read_key.Goals as goal

pub returns-in-At : goal.returns-in-At
returns-in-At c = rw c.in-At.is (runs_leaves _ c.read_operand.ensures)

pub returns-in-Joined : goal.returns-in-Joined
returns-in-Joined c = rw c.in-Joined.is (rw c.deref.ensures.value at c.read_joined.ensures)
