use Rattle.std.proofs.Common.{refl}
use Rattle.awk_evaluator.proofs.machine.Machine.assign_to.Goals as goal

pub returns-then-assign_number : goal.returns-then-assign_number
returns-then-assign_number c = (c.if-assign_number.ensures {u = tt}).assigned refl

pub returns-then-assign_number_in : goal.returns-then-assign_number_in
returns-then-assign_number_in c =
    let kept = (c.if-assign_number.ensures {u = tt}).kept refl in
    rw kept at ((c.if-assign_number_in.ensures {u = tt}).assigned refl)

pub returns : goal.returns
returns c =
    let kept = (c.if-assign_number.ensures {u = tt}).kept refl in
    let still = (c.if-assign_number_in.ensures {u = tt}).kept refl in
    rw kept at (rw still at c.assign_value.ensures)
