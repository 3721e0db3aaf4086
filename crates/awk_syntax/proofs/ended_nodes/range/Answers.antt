use Rattle.std.proofs.Common.{rules}
use Rattle.awk_syntax.proofs.ended_nodes.range.Goals as goal

pub returns : goal.returns
returns c = search rules
