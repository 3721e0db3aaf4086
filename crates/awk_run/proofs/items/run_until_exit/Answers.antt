use Rattle.awk_run.proofs.EarlyEnds.{ended_set, until_exit_follows}
use Rattle.awk_run.proofs.items.run_until_exit.Goals as goal

pub returns-clause-set : goal.returns-clause-set
returns-clause-set g c = ended_set c.end_calls.ensures.ends c.run_before_end-before.ensures.set

pub returns-clause-follows : goal.returns-clause-follows
returns-clause-follows g c = until_exit_follows c.unless_exit.ensures c.end_calls.ensures.ends c.run_before_end-before.ensures.follows
