use Rattle.std.proofs.Common.{Some, None, refl}
use Rattle.awk_runtime.proofs.CallWords.{leaves}
use Rattle.awk_runtime.proofs.runtime.Runtime.leave_call.Goals as goal

pub returns-in_err-left : goal.returns-in_err-left
returns-in_err-left c =
    let e = c.in_err-left.ensures {u = tt} in
    rw (c.from_residual.ensures, e.kept) (leaves None e.arrays e.caller tt refl)

pub returns : goal.returns
returns c =
    let e = c.in_ok-left.ensures {u = tt} in
    rw (c.truncate.ensures, e.left) (leaves (Some c.in_ok-left.left) e.arrays e.caller refl tt)
