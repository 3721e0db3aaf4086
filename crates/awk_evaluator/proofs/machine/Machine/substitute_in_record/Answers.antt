use Rattle.std.proofs.Common.{refl}
use Rattle.awk_evaluator.proofs.Computing.{computed}
use Rattle.awk_evaluator.proofs.machine.Machine.substitute_in_record.Goals as goal

pub returns-in-Some : goal.returns-in-Some
returns-in-Some c = rw c.in-Some.is (computed _ c.pop-replacement.ensures.rest c.substitute_in_record.ensures.callers (λ tables functions. rw (← c.pop-replacement.ensures.top) c.substitute_in_record.ensures))

pub returns-in-None : goal.returns-in-None
returns-in-None c = rw c.in-None.is (computed _ c.pop_two-pattern.ensures.rest c.substitute_in_record-in-None.ensures.callers (λ tables functions. rw (← c.pop_two-pattern.ensures.left, ← c.pop_two-pattern.ensures.right) c.substitute_in_record-in-None.ensures))
