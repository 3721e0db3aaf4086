use Rattle.awk_run.proofs.EarlyEnds.{ended_set, until_next_follows}
use Rattle.awk_run.proofs.items.try_until_next.Goals as goal

pub returns-clause-set : goal.returns-clause-set
returns-clause-set g c = ended_set c.end_calls.ensures.ends c.run_part-tried.ensures.set

pub returns-clause-follows : goal.returns-clause-follows
returns-clause-follows g c = until_next_follows c.unless_next.ensures c.end_calls.ensures.ends c.run_part-tried.ensures.follows
