use Rattle.std.proofs.Common.{arith}
use Rattle.awk_syntax.proofs.item_nodes.pattern_action.Goals as goal

pub node-requires : goal.node-requires
node-requires c = omega (arith, c.in-Some.pattern.counted, c.in-Some-statements.statements.counted)
