use Rattle.std.proofs.Common.{rules}
use Rattle.awk_syntax.proofs.simple_nodes.return_statement.Goals as goal

pub returns : goal.returns
returns c = search rules
