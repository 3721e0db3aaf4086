use Rattle.std.proofs.Common.{refl}
use Rattle.awk_evaluator.proofs.machine.Machine.update_variable.Goals as goal

pub returns : goal.returns
returns c =
    let kept = (c.if-assign_number_at.ensures {u = tt}).kept refl in
    rw kept at c.assign_operand.ensures
