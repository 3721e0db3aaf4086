use Rattle.std.proofs.Common.{not, sym, ap, ◌∙◌}
use Rattle.awk_pieces.specs.support.Known.{mine_of}
use Rattle.awk_pieces.proofs.KnownNames.{own_known, other_known}
use Rattle.awk_pieces.proofs.readable.KnownReadable.has.Goals as goal

pub returns-then-is_mine : goal.returns-then-is_mine
returns-then-is_mine c =
    c.has_name.ensures ∙ (rw c.deref.ensures.value (own_known (mine_of c.args.self.now) c.args.self.now.set.items c.args.name.now (sym c.is_mine.ensures ∙ c.if-is_mine.true)))

pub returns : goal.returns
returns c =
    ap not c.tells_apart.ensures ∙ other_known (mine_of c.args.self.now) c.args.self.now.set.items c.args.name.now (sym c.is_mine.ensures ∙ c.if-is_mine.false)
