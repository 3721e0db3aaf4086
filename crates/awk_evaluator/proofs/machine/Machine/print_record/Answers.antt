use Rattle.awk_evaluator.proofs.Moving.{no_functions}
use Rattle.std.proofs.Common.{Ok, refl}
use Rattle.awk_evaluator.proofs.Computing.{performed}
use Rattle.awk_evaluator.proofs.machine.Machine.print_record.Goals as goal

pub returns-then-hold_record-clause-performs : goal.returns-then-hold_record-clause-performs
returns-then-hold_record-clause-performs g c = rw c.requires.print (performed (Ok tt) refl (c.hold_record.ensures.follows c.if-hold_record.true no_functions).callers (λ tables functions. (c.hold_record.ensures.follows c.if-hold_record.true functions).simulates))

pub returns-clause-performs : goal.returns-clause-performs
returns-clause-performs g c = rw (c.hold_record.ensures.kept c.if-hold_record.false) at c.perform_other.ensures.performs
