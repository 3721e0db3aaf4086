use Rattle.std.proofs.Common.{rules}
use Rattle.awk_syntax.proofs.items.make_item.Goals as goal

pub returns-in-Begin : goal.returns-in-Begin
returns-in-Begin c = search rules
