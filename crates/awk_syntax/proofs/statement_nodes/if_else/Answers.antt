use Rattle.std.proofs.Common.{rules}
use Rattle.awk_syntax.proofs.statement_nodes.if_else.Goals as goal

pub of-requires : goal.of-requires
of-requires c = search rules
