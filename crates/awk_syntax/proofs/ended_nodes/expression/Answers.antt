use Rattle.std.proofs.Common.{rules}
use Rattle.awk_syntax.proofs.ended_nodes.expression.Goals as goal

pub of-requires : goal.of-requires
of-requires c = search rules
