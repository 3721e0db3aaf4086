use Rattle.std.proofs.Common.{refl}
use Rattle.awk_evaluator.proofs.Moving.{led_ends, finished}
use Rattle.awk_evaluator.proofs.machine.Machine.run.Goals as goal

pub returns-in-Over-clause-ends : goal.returns-in-Over-clause-ends
returns-in-Over-clause-ends g c = record { done = (_, led_ends c.steps.invariant.leads (finished c.in-Over.ensures.steps.steps refl c.clear.ensures refl refl)) }

pub returns-in-Halted-clause-ends : goal.returns-in-Halted-clause-ends
returns-in-Halted-clause-ends g c = record { done = led_ends c.steps.invariant.leads c.in-Halted.ensures.steps.steps }
