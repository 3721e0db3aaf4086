use Rattle.std.proofs.Common.{ap, ◌∙◌}
use Rattle.awk_evaluator.specs.declared.machine.Machine.{Machine}
use Rattle.awk_evaluator.proofs.OperandLines.{line_held}
use Rattle.awk_evaluator.proofs.machine.Machine.hold_line.Goals as goal

pub returns-clause-prints : goal.returns-clause-prints
returns-clause-prints g c = λ holds.
    let same = c.join_operands.ensures.same in
    line_held (ap (λ (m : Machine). m.operands) same) (rw c.requires.empty at (c.join_operands.ensures.appends c.if-not-join_operands.false))
    (λ ws is. let prints = rw same at c.hold_joined.ensures.prints in prints holds ws (c.as_slice.ensures.value ∙ is))
