use Rattle.awk_evaluator.proofs.Keys.{raised_at_key}
use Rattle.awk_evaluator.proofs.machine.Machine.raise_at_key.Goals as goal

pub returns-in-Some-clause-some : goal.returns-in-Some-clause-some
returns-in-Some-clause-some c = raised_at_key c.in-Some.raised c.in-Some.ensures.some

pub returns-in-Some-clause-none : goal.returns-in-Some-clause-none
returns-in-Some-clause-none c = c.in-Some.ensures.some.acted.keeps
