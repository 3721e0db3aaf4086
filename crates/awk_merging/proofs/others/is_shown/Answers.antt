use Rattle.std.proofs.Common.{sym, ◌∙◌}
use Rattle.awk_pieces.specs.support.Known.{own_of, set_of}
use Rattle.awk_pieces.proofs.KnownNames.{own_has}
use Rattle.awk_merging.proofs.OthersKnown.{own_in_end, other_in_end}
use Rattle.awk_merging.proofs.others.is_shown.Goals as goal

pub returns-then-is_own : goal.returns-then-is_own
returns-then-is_own c =
    c.has.ensures ∙ own_has c.args.known.now c.args.name.now (sym c.is_own.ensures ∙ c.if-is_own.true) ∙ own_in_end (own_of c.args.known.now) (set_of c.args.known.now) c.args.name.now (sym c.is_own.ensures ∙ c.if-is_own.true)

pub returns : goal.returns
returns c =
    c.may_be_shown.ensures ∙ other_in_end (own_of c.args.known.now) (set_of c.args.known.now) c.args.name.now (sym c.is_own.ensures ∙ c.if-is_own.false)
