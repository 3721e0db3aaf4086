-- A match is found where one is decided to be.
use Rattle.std.proofs.Common.{sym, ◌∙◌}
use Rattle.awk_ere.proofs.OccursDecided.{occurs_sound, occurs_complete}
use Rattle.awk_ere.proofs.LiteralOccurs.{literal_tells}
use Rattle.awk_ere.proofs.pattern.Pattern.is_match.Goals as goal

pub returns-in-Some-clause-decided : goal.returns-in-Some-clause-decided
returns-in-Some-clause-decided c t means =
    let literal = c.requires.literal c.in-Some.finder c.in-Some.is in
    c.is_some.ensures ∙ literal_tells t c.args.self.now c.args.text.now c.in-Some.finder c.find_literal.result means literal c.find_literal.ensures

pub returns-in-Some-clause-found : goal.returns-in-Some-clause-found
returns-in-Some-clause-found c t means =
    let decided = returns-in-Some-clause-decided c t means in
    (λ e. occurs_sound t _ means.0 (sym decided ∙ e), λ o. decided ∙ occurs_complete t _ o)
