use Rattle.std.proofs.lemmas.Result.{err_from_is_err_and}
use Rattle.awk_runtime.proofs.Received.{main_fails, main_gets, main_gets_none}
use Rattle.awk_runtime.proofs.runtime.Runtime.main_getline_at.Goals as goal

pub returns-in_err-text-clause-follows : goal.returns-in_err-text-clause-follows
returns-in_err-text-clause-follows g c =
    let p = err_from_is_err_and c.from_residual.result c.from_residual.ensures.1 in
    rw (p.1, p.2) (main_fails _ _ c.in_err-text.ensures.follows)

pub returns-in-Some-clause-follows : goal.returns-in-Some-clause-follows
returns-in-Some-clause-follows g c = main_gets _ _ _ (rw c.in-Some.is at c.in_ok-text.ensures.follows) c.receive_main.ensures

pub returns-in-None-clause-follows : goal.returns-in-None-clause-follows
returns-in-None-clause-follows g c = main_gets_none _ _ (rw c.in-None.is at c.in_ok-text.ensures.follows)
