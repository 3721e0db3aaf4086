use Rattle.std.proofs.Common.{rules}
use Rattle.awk_syntax.proofs.item_nodes.end.Goals as goal

pub returns : goal.returns
returns c = search rules
