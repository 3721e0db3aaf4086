use Rattle.std.proofs.Common.{refl}
use Rattle.awk_evaluator.proofs.machine.Machine.raise.Goals as goal

pub returns-then-raise_in : goal.returns-then-raise_in
returns-then-raise_in c = (c.if-raise_in.ensures {u = tt}).raised refl

pub returns : goal.returns
returns c =
    let kept = (c.if-raise_in.ensures {u = tt}).kept refl in
    rw kept at c.raise_value.ensures
