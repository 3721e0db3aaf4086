use Rattle.std.proofs.Common.{rules}
use Rattle.awk_syntax.proofs.operands.before_parenthesis.Goals as goal

pub returns : goal.returns
returns c = search rules
