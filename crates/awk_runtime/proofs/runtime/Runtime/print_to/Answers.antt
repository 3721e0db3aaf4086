use Rattle.std.proofs.lemmas.Result.{err_from_is_err_and}
use Rattle.awk_runtime.proofs.Prints.{opened_and_printed, not_opened}
use Rattle.awk_runtime.proofs.runtime.Runtime.print_to.Goals as goal

pub returns-in_err-target-clause-follows : goal.returns-in_err-target-clause-follows
returns-in_err-target-clause-follows g c =
    let p = err_from_is_err_and c.from_residual.result c.from_residual.ensures.1 in
    rw (p.1, p.2) (λ functions. not_opened _ c.in_err-target.ensures.opens)

pub returns-clause-follows : goal.returns-clause-follows
returns-clause-follows g c = λ functions. opened_and_printed _ c.in_ok-target.ensures.opens (c.print_by.ensures.prints functions)
