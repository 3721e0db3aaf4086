use Rattle.std.proofs.Common.{◌∙◌}
use Rattle.std.proofs.lemmas.Result.{err_from_is_err_and}
use Rattle.awk_run.proofs.Assigning.{assigned_halts, assigned_runs}
use Rattle.awk_run.proofs.PlanParts.{set_behind}
use Rattle.awk_run.proofs.plan_run.assign_and_run.Goals as goal

pub returns-in_err-assign_all-clause-follows : goal.returns-in_err-assign_all-clause-follows
returns-in_err-assign_all-clause-follows g c =
    let p = err_from_is_err_and c.from_residual.result c.from_residual.ensures.1 in
    rw (p.1, p.2) (assigned_halts _ c.in_err-assign_all.ensures)

pub returns-in_err-assign_all-clause-set : goal.returns-in_err-assign_all-clause-set
returns-in_err-assign_all-clause-set g c = set_behind c.in_err-assign_all.ensures.changes c.requires.set

pub run_items-requires : goal.run_items-requires
run_items-requires g c = record {
  set = set_behind c.in_ok-assign_all.ensures.changes c.requires.set;
  idle = record { operands = c.requires.idle.operands; calls = c.in_ok-assign_all.ensures.changes.callers ∙ c.requires.idle.calls };
}

pub returns-clause-follows : goal.returns-clause-follows
returns-clause-follows g c = assigned_runs _ c.in_ok-assign_all.ensures c.run_items.ensures.follows
