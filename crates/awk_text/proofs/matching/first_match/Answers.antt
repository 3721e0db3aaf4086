use Rattle.awk_text.proofs.NextMatch.{lies_within, first_match as first_found}
use Rattle.awk_text.proofs.matching.first_match.Goals as goal

pub returns-clause-within : goal.returns-clause-within
returns-clause-within c = lies_within _ c.args.text.now c.search_from.result c.search_from.ensures.lies

pub returns-clause-found : goal.returns-clause-found
returns-clause-found c = λ t means. first_found t c.args.text.now c.search_from.result (c.search_from.ensures.found t means)
