use Rattle.awk_run.proofs.RunsFrom.{runs_from, runs_not}
use Rattle.awk_run.proofs.Starting.{first_set, plan_for, begins_by, functions_for}
use Rattle.awk_run.proofs.plan_run.run_plan.Goals as goal

pub assign_and_run-ended-requires : goal.assign_and_run-ended-requires
assign_and_run-ended-requires g c = record {
  set = first_set c.requires.program c.in-Ok.ensures c.requires.sound;
  idle = c.in-Ok.ensures.idle;
}

pub finish-finished-requires : goal.finish-finished-requires
finish-finished-requires g c = record {
  «open» = c.assign_and_run-ended.ensures.set.ready.are_open;
  sound = c.assign_and_run-ended.ensures.set.ready.are_sound;
}

pub returns : goal.returns
returns g c = λ items program.
    runs_from items _ _ _ c.some_oracle_is_consistent.ensures.some c.law_of_ends.ensures (plan_for program c.in-Ok.ensures) (functions_for _ program) (begins_by c.args.start.now program c.in-Ok.ensures)
    (rw c.deref.ensures.value at c.assign_and_run-ended.ensures.follows) c.finish-finished.ensures.sound c.finish-finished.ensures.told (rw c.outcome_of.ensures at c.outcome_after-outcome.ensures)

pub returns-in_default : goal.returns-in_default
returns-in_default g c = λ items program.
    runs_not items _ _ c.some_oracle_is_consistent.ensures.some c.law_of_ends.ensures c.end_without_streams.ensures.told c.end_without_streams.ensures.orderly
