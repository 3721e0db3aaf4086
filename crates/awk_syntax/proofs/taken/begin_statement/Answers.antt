use Rattle.std.proofs.Common.{rules}
use Rattle.awk_syntax.proofs.taken.begin_statement.Goals as goal

pub returns : goal.returns
returns c = search rules
