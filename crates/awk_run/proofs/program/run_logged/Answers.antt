use Rattle.std.proofs.Common.{ap}
use Rattle.awk_run.proofs.Since.{since, from_since}
use Rattle.awk_run.proofs.program.run_logged.Goals as goal

pub run_plan-counted-requires : goal.run_plan-counted-requires
run_plan-counted-requires g c = record {
  program = record { items = c.requires.program.items; is = c.requires.program.holds.is };
  sound = λ t. c.law_of_untouched.ensures _ (record { log = c.new-logged.ensures.log; failures = c.new-logged.ensures.failures });
}

pub returns-clause-since : goal.returns-clause-since
returns-clause-since g c = λ items holds.
    let last = c.run_plan-counted.new.world in
    since (record { log = c.new-logged.ensures.log; failures = c.new-logged.ensures.failures })
    (ap (λ w. (g.W.World.state w).is_open) c.into_world.ensures) (λ t. rw c.into_world.ensures (last.tied t)) (c.run_plan-counted.ensures items holds.is)

pub returns-clause-runs : goal.returns-clause-runs
returns-clause-runs g c = λ items holds.
    let last = c.run_plan-counted.new.world in
    from_since (since (record { log = c.new-logged.ensures.log; failures = c.new-logged.ensures.failures })
    (ap (λ w. (g.W.World.state w).is_open) c.into_world.ensures) (λ t. rw c.into_world.ensures (last.tied t)) (c.run_plan-counted.ensures items holds.is))
