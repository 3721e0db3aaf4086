use Rattle.std.proofs.Common.{sym, ◌∙◌}
use Rattle.awk_pieces.specs.support.Known.{own_of, set_of}
use Rattle.awk_pieces.proofs.KnownNames.{own_has}
use Rattle.awk_merging.specs.support.SumsOf.{sums_of}
use Rattle.awk_merging.proofs.OthersKnown.{own_in_rule, other_in_rule}
use Rattle.awk_merging.proofs.others.OthersReadable.has.Goals as goal

pub returns-then-is_own : goal.returns-then-is_own
returns-then-is_own c =
    c.has.ensures ∙ own_has c.args.self.now.known.now c.args.name.now (sym c.is_own.ensures ∙ c.if-is_own.true) ∙ own_in_rule (own_of c.args.self.now.known.now) (sums_of c.args.self.now.sums.now) (set_of c.args.self.now.known.now) c.args.name.now (sym c.is_own.ensures ∙ c.if-is_own.true)

pub returns : goal.returns
returns c =
    c.is_other.ensures ∙ other_in_rule (own_of c.args.self.now.known.now) (sums_of c.args.self.now.sums.now) (set_of c.args.self.now.known.now) c.args.name.now (sym c.is_own.ensures ∙ c.if-is_own.false)
