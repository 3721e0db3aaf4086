use Rattle.std.proofs.Common.{Ok, refl}
use Rattle.awk_runtime.proofs.Composition.{lift_simulates}
use Rattle.awk_evaluator.proofs.Computing.{performed, acted, acted_ready}
use Rattle.awk_evaluator.proofs.machine.Machine.perform.Goals as goal

pub returns-in-Exchange : goal.returns-in-Exchange
returns-in-Exchange g c = record { ready = acted_ready c.make_exchange.ensures c.requires.ready; performs = rw c.in-Exchange.is (acted c.make_exchange.ensures) }

pub returns-in-Drop-eq1-clause-performs : goal.returns-in-Drop-eq1-clause-performs
returns-in-Drop-eq1-clause-performs g c =
    let one = rw c.in-Drop-eq1.is at c.in-Drop-eq1.field-0-test in
    rw (c.in-Drop-eq1.is, one) (performed (Ok tt) c.pop.ensures.rest refl (λ tables functions. lift_simulates (Ok tt) _ _ refl))
