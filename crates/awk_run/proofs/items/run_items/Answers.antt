use Rattle.std.proofs.lemmas.Result.{err_from_is_err_and}
use Rattle.awk_run.proofs.EarlyEnds.{run_halts, run_goes}
use Rattle.awk_run.proofs.items.run_items.Goals as goal

pub returns-in_err-run_until_exit-clause-follows : goal.returns-in_err-run_until_exit-clause-follows
returns-in_err-run_until_exit-clause-follows g c =
    let p = err_from_is_err_and c.from_residual.result c.from_residual.ensures.1 in
    rw (p.1, p.2) (run_halts c.in_err-run_until_exit.ensures.follows)

pub returns-clause-follows : goal.returns-clause-follows
returns-clause-follows g c = run_goes c.in_ok-run_until_exit.ensures.follows c.run_part.ensures.follows
