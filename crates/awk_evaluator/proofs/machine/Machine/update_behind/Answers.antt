use Rattle.awk_evaluator.proofs.Keys.{key_updated, key_not_updated}
use Rattle.awk_evaluator.proofs.machine.Machine.update_behind.Goals as goal

pub returns-in-Ok : goal.returns-in-Ok
returns-in-Ok c = key_updated c.args.operator c.args.array c.args.key.now c.args.operand.now _ c.in-Ok.ensures c.assign_at.ensures

pub returns-in-Err : goal.returns-in-Err
returns-in-Err c = key_not_updated c.args.operator c.args.array c.args.key.now c.args.operand.now c.in-Err.ensures
