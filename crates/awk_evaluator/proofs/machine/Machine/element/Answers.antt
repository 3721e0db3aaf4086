use Rattle.awk_evaluator.proofs.machine.Machine.element.Goals as goal

pub returns-in-Some : goal.returns-in-Some
returns-in-Some c = rw c.in-Some.is c.element_at.ensures

pub returns-in-None : goal.returns-in-None
returns-in-None c = rw c.in-None.is c.element_on_top.ensures
