use Rattle.awk_text.proofs.NextMatch.{search_nothing, search_found}
use Rattle.awk_text.proofs.matching.search_from.Goals as goal

pub returns-in-None-clause-found : goal.returns-in-None-clause-found
returns-in-None-clause-found c = λ t means. search_nothing t c.args.text.now c.args.from (c.in-None.ensures.found t means)

pub returns-in-Some-clause-found : goal.returns-in-Some-clause-found
returns-in-Some-clause-found c = λ t means.
    search_found t c.args.text.now c.args.from c.in-Some.start c.in-Some.end (c.in-Some.ensures.found t means)

pub returns-in-Some-clause-lies : goal.returns-in-Some-clause-lies
returns-in-Some-clause-lies c =
    let lies = c.in-Some.ensures.within in
    record { behind = lies.0; order = lies.1.0; within = lies.1.1 }
