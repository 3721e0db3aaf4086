use Rattle.std.proofs.lemmas.Result.{err_from_is_err_and}
use Rattle.awk_evaluator.proofs.Joining.{operated_on_operands, operated_on_one, operated_on_none}
use Rattle.awk_evaluator.proofs.machine.Machine.operate_on.Goals as goal

pub returns-in_err-left : goal.returns-in_err-left
returns-in_err-left c =
    let p = err_from_is_err_and c.from_residual.result c.from_residual.ensures.1 in
    rw (p.1, p.2) (operated_on_none c.in_err-left.ensures)

pub returns-in_err-right : goal.returns-in_err-right
returns-in_err-right c =
    let p = err_from_is_err_and c.from_residual-in_err-right.result c.from_residual-in_err-right.ensures.1 in
    rw (p.1, p.2) (operated_on_one c.in_ok-left.ensures c.in_err-right.ensures)

pub returns : goal.returns
returns c = operated_on_operands c.in_ok-left.ensures c.in_ok-right.ensures c.join.ensures.operands c.join.ensures.changes.callers c.join.ensures.changes
