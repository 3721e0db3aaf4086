-- A match is found where one is decided to be.
use Rattle.std.proofs.Common.{None, sym, ◌∙◌, arith}
use Rattle.awk_ere.proofs.OccursDecided.{tells_ends}
use Rattle.awk_ere.proofs.pattern.Pattern.is_match_by_table.Goals as goal

pub returns-clause-decided : goal.returns-clause-decided
returns-clause-decided c t means = c.is_some.ensures ∙ tells_ends t _ _ means.0 (c.first_end.ensures.found t means)

pub returns-then-lacks_required-clause-decided : goal.returns-then-lacks_required-clause-decided
returns-then-lacks_required-clause-decided c t means =
    tells_ends t c.args.text.now None means.0 (λ m. c.lacks_required.ensures c.if-lacks_required.true t means m.0 m.1 (omega arith) m.3 m.4)
