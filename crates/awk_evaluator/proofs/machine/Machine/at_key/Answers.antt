use Rattle.awk_evaluator.proofs.Keys.{operand_acts, joined_acts}
use Rattle.awk_evaluator.proofs.machine.Machine.at_key.Goals as goal

pub returns-in-At-clause-some : goal.returns-in-At-clause-some
returns-in-At-clause-some g c = rw c.in-At.is (operand_acts c.args.self.now _ _ c.in-At.operand c.at_operand.result c.at_operand.ensures.some)

pub returns-in-Joined-clause-some : goal.returns-in-Joined-clause-some
returns-in-Joined-clause-some g c = rw c.in-Joined.is (joined_acts c.args.self.now _ _ c.in-Joined.parts c.at_joined.result (rw c.deref.ensures.value at c.at_joined.ensures.some))
