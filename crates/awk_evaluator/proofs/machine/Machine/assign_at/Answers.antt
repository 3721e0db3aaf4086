use Rattle.awk_evaluator.proofs.Keys.{operand_assigned, operand_not_assigned}
use Rattle.awk_evaluator.proofs.machine.Machine.assign_at.Goals as goal

pub returns-in-Ok : goal.returns-in-Ok
returns-in-Ok c = operand_assigned c.args.operator c.args.array c.args.key.now c.args.operand.now _ c.in-Ok.ensures c.put_at.ensures

pub returns-in-Err : goal.returns-in-Err
returns-in-Err c = operand_not_assigned c.args.operator c.args.array c.args.key.now c.args.operand.now c.in-Err.ensures
