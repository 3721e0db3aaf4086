use Rattle.awk_text.proofs.matching.match_at.Goals as goal

pub first_match-requires-clause-failures : goal.first_match-requires-clause-failures
first_match-requires-clause-failures c = c.for_one_search-failures.ensures c.args.text.now
