use Rattle.std.proofs.Common.{refl}
use Rattle.awk_evaluator.proofs.Parts.{part_done, computes_kept}
use Rattle.awk_evaluator.proofs.machine.Machine.assign_by.Goals as goal

pub returns-then-assign_as_number : goal.returns-then-assign_as_number
returns-then-assign_as_number c = (c.if-assign_as_number.ensures {u = tt}).assigned refl

pub returns : goal.returns
returns c =
    let kept = (c.if-assign_as_number.ensures {u = tt}).kept refl in
    let still = (c.if-assign_as_number_in.ensures {u = tt}).kept refl in
    part_done _ c.is_done.ensures.came (computes_kept c.is_done.ensures.kept (rw kept at (rw still at c.assign-assigned.ensures)))
