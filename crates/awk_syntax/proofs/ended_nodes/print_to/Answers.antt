use Rattle.std.proofs.Common.{rules}
use Rattle.awk_syntax.proofs.ended_nodes.print_to.Goals as goal

pub returns : goal.returns
returns c = search rules
