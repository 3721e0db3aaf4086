use Rattle.std.proofs.lemmas.Result.{err_from_is_err_and}
use Rattle.awk_runtime.proofs.Seeks.{first_unopened, first_unnamed, first_seeks}
use Rattle.awk_runtime.proofs.runtime.Runtime.first_record.Goals as goal

pub returns-in_err-open_main-clause-seeks : goal.returns-in_err-open_main-clause-seeks
returns-in_err-open_main-clause-seeks g c =
    let p = err_from_is_err_and c.from_residual.result c.from_residual.ensures.1 in
    rw (p.1, p.2) (first_unopened _ (rw c.path_of.ensures.path at c.in_err-open_main.ensures.opens))

pub returns-in_err-begin_input-clause-seeks : goal.returns-in_err-begin_input-clause-seeks
returns-in_err-begin_input-clause-seeks g c =
    let p = err_from_is_err_and c.from_residual-in_err-begin_input.result c.from_residual-in_err-begin_input.ensures.1 in
    rw (p.1, p.2) (first_unnamed _ (rw c.path_of.ensures.path at c.in_ok-open_main.ensures.opens) c.in_err-begin_input.ensures)

pub returns-clause-seeks : goal.returns-clause-seeks
returns-clause-seeks g c = first_seeks _ (rw c.path_of.ensures.path at c.in_ok-open_main.ensures.opens) c.in_ok-begin_input.ensures c.main_record.ensures.seeks
