use Rattle.std.proofs.Common.{rules, refl}
use Rattle.awk_kinds.proofs.Searching.{newly}
use Rattle.awk_kinds.proofs.reach.Search.mark.Goals as goal

pub returns-in_ok-push : goal.returns-in_ok-push
returns-in_ok-push c = newly c.args.self.now _ c.args.v c.requires (search rules) refl c.in_ok-push.ensures.items
