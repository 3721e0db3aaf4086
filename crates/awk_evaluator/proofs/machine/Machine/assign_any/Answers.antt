use Rattle.awk_evaluator.proofs.Computing.{given_callers}
use Rattle.std.proofs.Common.{refl}
use Rattle.awk_evaluator.proofs.Parts.{variable_given}
use Rattle.awk_evaluator.proofs.machine.Machine.assign_any.Goals as goal

pub returns : goal.returns
returns c = variable_given c.assign_variable-assigned.result c.is_done.ensures.came c.is_done.ensures.kept (rw c.pop-value.ensures.top at c.assign_variable-assigned.ensures) c.pop-value.ensures.rest (given_callers c.assign_variable-assigned.result c.assign_variable-assigned.ensures)
