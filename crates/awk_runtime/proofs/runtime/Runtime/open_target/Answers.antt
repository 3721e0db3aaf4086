use Rattle.std.proofs.lemmas.Result.{err_from_is_err_and}
use Rattle.awk_runtime.proofs.Openings.{unopened}
use Rattle.awk_runtime.proofs.runtime.Runtime.open_target.Goals as goal

pub returns-in_err-name-clause-opens : goal.returns-in_err-name-clause-opens
returns-in_err-name-clause-opens g c =
    let p = err_from_is_err_and c.from_residual.result c.from_residual.ensures.1 in
    rw (p.1, p.2, c.in_err-name.ensures.fault) (unopened _ _ _)
