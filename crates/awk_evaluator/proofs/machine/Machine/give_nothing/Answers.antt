use Rattle.awk_evaluator.proofs.Returning.{over_at_once}
use Rattle.awk_evaluator.proofs.machine.Machine.give_nothing.Goals as goal

pub returns-then-calls_are_over : goal.returns-then-calls_are_over
returns-then-calls_are_over c = over_at_once c.args.self.now (c.are_none.ensures c.if-are_none.true) (c.calls_are_over.ensures c.if-calls_are_over.true)
