use Rattle.std.proofs.Common.{refl}
use Rattle.awk_evaluator.proofs.machine.Machine.increment_element.Goals as goal

pub returns-then-raise_at_hand : goal.returns-then-raise_at_hand
returns-then-raise_at_hand c = rw c.requires ((c.if-raise_at_hand.ensures {u = tt}).raised refl)

pub returns : goal.returns
returns c =
    let kept = (c.if-raise_at_hand.ensures {u = tt}).kept refl in
    rw kept at c.increment_value.ensures
