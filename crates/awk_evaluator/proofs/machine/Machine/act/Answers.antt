use Rattle.std.proofs.Common.{refl, Ok}
use Rattle.awk_runtime.proofs.Composition.{change_simulates, lift_simulates, ready_behind}
use Rattle.awk_evaluator.proofs.Computing.{performed, acted, acted_ready}
use Rattle.awk_evaluator.proofs.machine.Machine.act.Goals as goal

pub returns-in-Drop-clause-performs : goal.returns-in-Drop-clause-performs
returns-in-Drop-clause-performs g c = rw c.in-Drop.is (performed (Ok tt) c.drop.ensures refl (λ tables functions. lift_simulates (Ok tt) _ _ refl))

pub returns-in-Delete-clause-ready : goal.returns-in-Delete-clause-ready
returns-in-Delete-clause-ready g c = acted_ready c.delete.ensures c.requires.ready

pub returns-in-Delete-clause-performs : goal.returns-in-Delete-clause-performs
returns-in-Delete-clause-performs g c = rw c.in-Delete.is (acted c.delete.ensures)

pub returns-in-Clear-clause-ready : goal.returns-in-Clear-clause-ready
returns-in-Clear-clause-ready g c = ready_behind c.clear_at.ensures c.requires.ready

pub returns-in-Clear-clause-performs : goal.returns-in-Clear-clause-performs
returns-in-Clear-clause-performs g c = rw c.in-Clear.is (performed (Ok tt) refl c.clear_at.ensures.callers (λ tables functions. change_simulates c.clear_at.ensures))

pub returns-in-EndInput-clause-performs : goal.returns-in-EndInput-clause-performs
returns-in-EndInput-clause-performs g c = rw c.in-EndInput.is (performed (Ok tt) refl c.close_main_input.ensures.follows.callers (λ tables functions. c.close_main_input.ensures.follows.simulates))

pub returns-in-SetStatus-clause-ready : goal.returns-in-SetStatus-clause-ready
returns-in-SetStatus-clause-ready g c = acted_ready c.set_status.ensures c.requires.ready

pub returns-in-SetStatus-clause-performs : goal.returns-in-SetStatus-clause-performs
returns-in-SetStatus-clause-performs g c = rw c.in-SetStatus.is (acted c.set_status.ensures)

pub returns-in-SetInside-clause-ready : goal.returns-in-SetInside-clause-ready
returns-in-SetInside-clause-ready g c = ready_behind c.set_inside.ensures c.requires.ready

pub returns-in-SetInside-clause-performs : goal.returns-in-SetInside-clause-performs
returns-in-SetInside-clause-performs g c = rw c.in-SetInside.is (performed c.set_inside.result refl c.set_inside.ensures.callers (λ tables functions. change_simulates c.set_inside.ensures))

pub returns-then-make_exchange-clause-ready : goal.returns-then-make_exchange-clause-ready
returns-then-make_exchange-clause-ready g c = acted_ready c.make_exchange.ensures c.requires.ready

pub returns-then-make_exchange-clause-performs : goal.returns-then-make_exchange-clause-performs
returns-then-make_exchange-clause-performs g c = rw c.in-Exchange.is (acted (rw c.if-make_exchange.true at c.make_exchange.ensures))

pub returns-else-make_exchange-clause-ready : goal.returns-else-make_exchange-clause-ready
returns-else-make_exchange-clause-ready g c = acted_ready c.make_exchange.ensures c.requires.ready

pub returns-else-make_exchange-clause-performs : goal.returns-else-make_exchange-clause-performs
returns-else-make_exchange-clause-performs g c = rw c.in-Exchange.is (acted (rw c.if-make_exchange.false at c.make_exchange.ensures))
