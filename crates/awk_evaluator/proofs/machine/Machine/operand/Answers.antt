use Rattle.awk_evaluator.proofs.Joining.{operand_found}
use Rattle.awk_evaluator.proofs.machine.Machine.operand.Goals as goal

pub returns : goal.returns
returns c = operand_found c.read_operand.ensures
