use Rattle.std.proofs.lemmas.Result.{err_from_is_err_and}
use Rattle.awk_evaluator.proofs.Joining.{operated_with_operand, operated_with_none}
use Rattle.awk_evaluator.proofs.machine.Machine.operate_with.Goals as goal

pub returns-in_err-right : goal.returns-in_err-right
returns-in_err-right c =
    let p = err_from_is_err_and c.from_residual.result c.from_residual.ensures.1 in
    rw (p.1, p.2) (operated_with_none c.in_err-right.ensures)

pub returns : goal.returns
returns c = operated_with_operand c.in_ok-right.ensures c.pop-left.ensures.top c.pop-left.ensures.rest c.join.ensures.operands c.join.ensures.changes.callers c.join.ensures.changes
