use Rattle.std.proofs.Common.{Err}
use Rattle.std.proofs.lemmas.Result.{err_from_is_err_and}
use Rattle.awk_runtime.proofs.Openings.{output_opens}
use Rattle.awk_runtime.proofs.Turns.{written}
use Rattle.awk_runtime.proofs.runtime.Runtime.open_output.Goals as goal

pub returns-in_err-open_output-clause-opens : goal.returns-in_err-open_output-clause-opens
returns-in_err-open_output-clause-opens g c =
    let p = err_from_is_err_and c.from_residual.result c.from_residual.ensures.1 in
    rw (p.1, p.2) (output_opens _ _ _ (Err c.in_err-open_output.field-0.0) (written _ _ _ _) c.in_err-open_output.ensures.told)

pub returns-clause-opens : goal.returns-clause-opens
returns-clause-opens g c = output_opens _ _ _ _ (written _ _ _ _) c.in_ok-open_output.ensures.told
