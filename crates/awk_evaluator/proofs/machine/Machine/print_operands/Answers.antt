use Rattle.std.proofs.Common.{ap}
use Rattle.awk_runtime.specs.declared.runtime.Runtime.{Runtime}
use Rattle.awk_runtime.proofs.Composition.{ready_same}
use Rattle.awk_evaluator.proofs.Parts.{prints_kept}
use Rattle.awk_evaluator.proofs.OperandLines.{printed_behind}
use Rattle.awk_evaluator.proofs.machine.Machine.print_operands.Goals as goal

pub returns-clause-ready : goal.returns-clause-ready
returns-clause-ready g c = ready_same (ap (λ (x : Runtime). x.streams) c.is_done.ensures.kept.runtime) c.print_each-printed.ensures.ready

pub returns-clause-prints : goal.returns-clause-prints
returns-clause-prints g c = printed_behind _ (c.hold_at_hand.ensures.kept c.if-hold_at_hand.false) (prints_kept c.is_done.ensures.kept c.is_done.ensures.came c.print_each-printed.ensures.prints)
