use Rattle.awk_evaluator.proofs.Asking.{found_asks, answered_alike}
use Rattle.awk_evaluator.proofs.machine.Machine.test_element.Goals as goal

pub returns-in-Some-Some : goal.returns-in-Some-Some
returns-in-Some-Some c =
    let h = c.in-Some-Some.ensures.some in
    rw h.acted.same (found_asks c.args.array c.args.key.now h.at_hand (rw c.in-Some-Some.field-0-is at h.acted.found))

pub returns-in-Err : goal.returns-in-Err
returns-in-Err c =
    let same = answered_alike c.args.array c.args.key.now c.at_key.result c.at_key.ensures.some c.at_key.ensures.none in
    let e = rw same at c.in-Err.ensures in
    record { operands = tt; calls = tt; changes = e.changes }
