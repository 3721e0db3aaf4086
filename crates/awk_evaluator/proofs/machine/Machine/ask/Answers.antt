use Rattle.awk_evaluator.proofs.Asking.{top_asks, inside_asks}
use Rattle.awk_evaluator.proofs.machine.Machine.ask.Goals as goal

pub returns-in-Top : goal.returns-in-Top
returns-in-Top c = rw c.in-Top.is (top_asks c.test.ensures.truth c.test.ensures.popped)

pub returns-in-Raised : goal.returns-in-Raised
returns-in-Raised c = rw c.in-Raised.is c.test_raised.ensures

pub returns-in-Element : goal.returns-in-Element
returns-in-Element c = rw c.in-Element.is c.test_element.ensures

pub returns-in-Inside : goal.returns-in-Inside
returns-in-Inside c = rw c.in-Inside.is (inside_asks c.is_inside.ensures)
