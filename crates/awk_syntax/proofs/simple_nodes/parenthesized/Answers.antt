use Rattle.std.proofs.Common.{rules}
use Rattle.awk_syntax.proofs.simple_nodes.parenthesized.Goals as goal

pub returns : goal.returns
returns c = search rules
