use Rattle.std.proofs.Common.{refl}
use Rattle.awk_evaluator.proofs.Computing.{computed, number_changes}
use Rattle.awk_evaluator.proofs.machine.Machine.field_number.Goals as goal

pub returns : goal.returns
returns c = computed _ c.pop-operand.ensures.rest c.change.ensures.callers (λ tables functions. rw (← c.pop-operand.ensures.top) (number_changes c.pop-operand.result c.change.ensures))
