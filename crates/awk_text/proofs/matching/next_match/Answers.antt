use Rattle.awk_text.proofs.NextMatch.{next_none, next_found, next_behind, next_past_empty}
use Rattle.awk_text.proofs.matching.next_match.Goals as goal

pub returns-then-last-clause-found : goal.returns-then-last-clause-found
returns-then-last-clause-found c = λ t means.
    next_past_empty t c.args.text.now c.args.last c.if-last.true (c.requires.longest t means) c.search_behind.result (c.search_behind.ensures.found t means)

pub returns-in-None-clause-found : goal.returns-in-None-clause-found
returns-in-None-clause-found c = λ t means. next_none t c.args.text.now c.args.last.end (c.in-None.ensures.found t means)

pub returns-then-last-found-clause-found : goal.returns-then-last-found-clause-found
returns-then-last-found-clause-found c = λ t means.
    next_found t c.args.text.now c.args.last.end c.in-Some.found (c.in-Some.ensures.found t means) c.if-last-found.true

pub returns-else-last-found-clause-found : goal.returns-else-last-found-clause-found
returns-else-last-found-clause-found c = λ t means.
    next_behind t c.args.text.now c.args.last.end c.in-Some.found (c.in-Some.ensures.found t means) c.if-last-found.false
    c.search_behind-else-last-found.result (c.search_behind-else-last-found.ensures.found t means)

pub returns-then-last-found-clause-past : goal.returns-then-last-found-clause-past
returns-then-last-found-clause-past c = c.if-last-found.true
