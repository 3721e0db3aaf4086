use Rattle.std.proofs.lemmas.Result.{err_from_is_err_and}
use Rattle.awk_runtime.proofs.PlaceWords.{assigned, not_assigned}
use Rattle.awk_runtime.proofs.runtime.Runtime.assign_at.Goals as goal

pub returns-in_err-store_at : goal.returns-in_err-store_at
returns-in_err-store_at c =
    let p = err_from_is_err_and c.from_residual.result c.from_residual.ensures.1 in
    rw (p.1, p.2) (not_assigned _ _ _ c.in_err-store_at.ensures)

pub returns : goal.returns
returns c = assigned c.args.place c.args.operand.now c.args.value c.in_ok-store_at.ensures c.read_at.ensures
