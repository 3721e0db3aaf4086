use Rattle.std.proofs.Common.{rules}
use Rattle.awk_syntax.proofs.simple_nodes.delete.Goals as goal

pub of-requires : goal.of-requires
of-requires c = search rules
