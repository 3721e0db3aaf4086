use Rattle.std.proofs.Common.{rules}
use Rattle.awk_syntax.proofs.statement_nodes.for_in.Goals as goal

pub returns : goal.returns
returns c = search rules
