use Rattle.awk_evaluator.proofs.Parts.{related_compares}
use Rattle.awk_evaluator.proofs.machine.Machine.compare_field.Goals as goal

pub returns-in-Some : goal.returns-in-Some
returns-in-Some c = rw c.relate_field.ensures.same (related_compares c.in-Some.ensures.some)

pub returns : goal.returns
returns c = rw c.relate_field.ensures.same at c.compare_read.ensures
