use Rattle.std.proofs.Common.{refl}
use Rattle.awk_evaluator.proofs.QuickValues.{pushed_puts}
use Rattle.awk_evaluator.proofs.machine.Machine.put_copy_of.Goals as goal

pub returns-in-Some-clause-puts : goal.returns-in-Some-clause-puts
returns-in-Some-clause-puts c = λ ok. pushed_puts refl (λ tables functions. c.in-Some.ensures {u = tt}) (record { operands = c.push_copy.ensures.pushed ok; calls = refl; runtime = refl })
