use Rattle.std.proofs.lemmas.Result.{err_from_is_err_and}
use Rattle.awk_runtime.proofs.PlaceWords.{by_unread, by_refused, by_assigned}
use Rattle.awk_runtime.proofs.runtime.Runtime.assign_applied.Goals as goal

pub returns-in_err-old : goal.returns-in_err-old
returns-in_err-old c =
    let p = err_from_is_err_and c.from_residual.result c.from_residual.ensures.1 in
    rw (p.1, p.2) (by_unread _ _ _ _ c.in_err-old.ensures)

pub returns-in_err-value : goal.returns-in_err-value
returns-in_err-value c =
    let p = err_from_is_err_and c.from_residual-in_err-value.result c.from_residual-in_err-value.ensures.1 in
    rw (p.1, p.2) (by_refused _ _ _ _ c.in_ok-old.ensures c.in_err-value.ensures)

pub returns : goal.returns
returns c = by_assigned c.args.operator c.args.place c.args.operand.now c.args.value.now c.in_ok-old.ensures c.in_ok-value.ensures c.assign_at.ensures
