use Rattle.std.proofs.lemmas.Result.{err_from_is_err_and}
use Rattle.awk_run.proofs.ItemLemmas.{runs_halts, runs_none, runs_some}
use Rattle.awk_run.proofs.items.run_before_end.Goals as goal

pub returns-in_err-run_part-clause-follows : goal.returns-in_err-run_part-clause-follows
returns-in_err-run_part-clause-follows g c =
    let p = err_from_is_err_and c.from_residual.result c.from_residual.ensures.1 in
    rw (p.1, p.2) (runs_halts c.in_err-run_part.ensures.follows)

pub returns-in_err-run_records-clause-follows : goal.returns-in_err-run_records-clause-follows
returns-in_err-run_records-clause-follows g c =
    let p = err_from_is_err_and c.from_residual-in_err-run_records.result c.from_residual-in_err-run_records.ensures.1 in
    rw (p.1, p.2) (runs_some c.if-plan.true c.in_ok-run_part.ensures.follows c.in_err-run_records.ensures.follows)

pub returns-in_ok-run_records-clause-follows : goal.returns-in_ok-run_records-clause-follows
returns-in_ok-run_records-clause-follows g c = runs_some c.if-plan.true c.in_ok-run_part.ensures.follows c.in_ok-run_records.ensures.follows

pub returns-else-plan-clause-follows : goal.returns-else-plan-clause-follows
returns-else-plan-clause-follows g c = runs_none c.if-plan.false c.in_ok-run_part.ensures.follows
