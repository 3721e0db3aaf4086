use Rattle.awk_runtime.proofs.runtime.Runtime.next_record.Goals as goal

pub returns-in-Some-clause-follows : goal.returns-in-Some-clause-follows
returns-in-Some-clause-follows g c = c.in-Some.ensures.follows _ c.requires.ready

pub returns-in-None-clause-follows : goal.returns-in-None-clause-follows
returns-in-None-clause-follows g c = rw c.in-None.ensures.none at c.search_record.ensures.follows

pub returns-in-Some-clause-ready : goal.returns-in-Some-clause-ready
returns-in-Some-clause-ready g c = c.in-Some.ensures.ready _ c.requires.ready
