use Rattle.std.proofs.Common.{rules}
use Rattle.awk_syntax.proofs.simple_nodes.exit.Goals as goal

pub returns : goal.returns
returns c = search rules
