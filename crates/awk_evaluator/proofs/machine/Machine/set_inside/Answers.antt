use Rattle.std.proofs.Common.{Ok, refl}
use Rattle.awk_runtime.proofs.Composition.{change_simulates, ready_behind}
use Rattle.awk_evaluator.proofs.Computing.{performed}
use Rattle.awk_evaluator.proofs.machine.Machine.set_inside.Goals as goal

pub returns-then-put_inside-clause-ready : goal.returns-then-put_inside-clause-ready
returns-then-put_inside-clause-ready g c = ready_behind (c.put_inside.ensures.puts c.if-put_inside.true) c.requires.ready

pub returns-then-put_inside-clause-performs : goal.returns-then-put_inside-clause-performs
returns-then-put_inside-clause-performs g c = rw c.requires.range (performed (Ok tt) refl (c.put_inside.ensures.puts c.if-put_inside.true).callers (λ tables functions. change_simulates (c.put_inside.ensures.puts c.if-put_inside.true)))

pub returns-clause-performs : goal.returns-clause-performs
returns-clause-performs g c = rw (c.put_inside.ensures.kept c.if-put_inside.false) at c.perform_other.ensures.performs
