use Rattle.std.proofs.Common.{rules}
use Rattle.awk_syntax.proofs.item_nodes.begin.Goals as goal

pub returns : goal.returns
returns c = search rules
