use Rattle.awk_evaluator.proofs.OperandLines.{line_begun}
use Rattle.awk_evaluator.proofs.machine.Machine.join_operands.Goals as goal

pub returns-clause-appends : goal.returns-clause-appends
returns-clause-appends c = λ appends.
    line_begun c.args.operands.now c.first-item.result c.in-len1-up.len_at_least c.first-item.is (c.join_operand.ensures.appends c.if-not-join_operand.false) (rw c.join_operand.ensures.same at (c.join_others.ensures.appends appends))
