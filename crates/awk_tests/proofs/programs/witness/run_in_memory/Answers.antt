use Rattle.awk_run.specs.Accepted.{Accepted}
use Rattle.awk_run.specs.Start.{start_values}
use Rattle.awk_run.specs.Runs.{Runs}
use Rattle.awk_tests.proofs.Witness.{witnessed}
use Rattle.awk_tests.proofs.programs.witness.run_in_memory.Goals as goal

pub returns-clause-run : goal.returns-clause-run
returns-clause-run c = witnessed (Accepted c.args.text.now) _ (λ items outcome. Runs items (start_values c.args.start.now) c.args.limit _ outcome) c.execute-outcome.result c.execute-outcome.ensures.executed.run (record { log = c.new-world.ensures.log; failures = c.new-world.ensures.failures })
