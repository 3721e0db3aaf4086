use Rattle.std.proofs.Common.{refl}
use Rattle.awk_evaluator.proofs.Parts.{part_done, runs_kept, done_kept}
use Rattle.awk_evaluator.proofs.machine.Machine.assign_operand.Goals as goal

pub returns-then-assign_from_field : goal.returns-then-assign_from_field
returns-then-assign_from_field c = (c.if-assign_from_field.ensures {u = tt}).assigned refl

pub returns-in-Plain : goal.returns-in-Plain
returns-in-Plain c =
    let kept = (c.if-assign_from_field.ensures {u = tt}).kept refl in
    rw c.in-Plain.is (done_kept c.is_done.ensures.kept _ c.is_done.ensures.came (rw kept at c.give_operand-assigned.ensures))

pub returns : goal.returns
returns c =
    let kept = (c.if-assign_from_field.ensures {u = tt}).kept refl in
    part_done _ c.is_done-2.ensures.came (runs_kept c.is_done-2.ensures.kept (rw kept at c.assign_read-assigned.ensures))
