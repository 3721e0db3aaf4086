use Rattle.awk_evaluator.proofs.Parts.{related_compares}
use Rattle.awk_evaluator.proofs.machine.Machine.compare_values.Goals as goal

pub returns-in-Some : goal.returns-in-Some
returns-in-Some c = related_compares (c.in-Some.ensures {u = tt})
