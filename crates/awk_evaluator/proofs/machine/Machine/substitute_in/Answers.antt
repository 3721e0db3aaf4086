use Rattle.std.proofs.Common.{refl}
use Rattle.awk_evaluator.proofs.Computing.{computed}
use Rattle.awk_evaluator.proofs.machine.Machine.substitute_in.Goals as goal

pub returns-in-Some : goal.returns-in-Some
returns-in-Some c = computed _ refl c.substitute_in_variable.ensures.callers (λ tables functions. rw c.in-Some.is c.substitute_in_variable.ensures)

pub returns-in-None : goal.returns-in-None
returns-in-None c = computed _ refl c.substitute_in_record.ensures.callers (λ tables functions. rw c.in-None.is c.substitute_in_record.ensures)
