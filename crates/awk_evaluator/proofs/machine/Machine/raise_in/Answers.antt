use Rattle.std.proofs.Common.{refl}
use Rattle.awk_evaluator.proofs.Parts.{element_raised}
use Rattle.awk_evaluator.proofs.machine.Machine.raise_in.Goals as goal

pub returns-clause-raised : goal.returns-clause-raised
returns-clause-raised c = λ _.
    rw c.in-Element.is (element_raised (rw c.in-Some.ensures.top at c.in-Some-raise_element.ensures.some) c.pop.ensures.rest c.in-Some-raise_element.ensures.some.callers)
