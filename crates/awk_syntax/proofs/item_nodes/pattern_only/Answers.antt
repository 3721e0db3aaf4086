use Rattle.std.proofs.Common.{rules}
use Rattle.awk_syntax.proofs.item_nodes.pattern_only.Goals as goal

pub node-requires : goal.node-requires
node-requires c = search rules
