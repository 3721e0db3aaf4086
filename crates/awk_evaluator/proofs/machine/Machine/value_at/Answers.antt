use Rattle.awk_evaluator.proofs.QuickValues.{constant_at_hand}
use Rattle.awk_evaluator.proofs.machine.Machine.value_at.Goals as goal

pub returns-in-Constant : goal.returns-in-Constant
returns-in-Constant c = rw c.in-Constant.is (constant_at_hand _)
