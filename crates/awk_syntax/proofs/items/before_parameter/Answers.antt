use Rattle.std.proofs.Common.{rules}
use Rattle.awk_syntax.proofs.items.before_parameter.Goals as goal

pub returns-in-CloseParenthesis : goal.returns-in-CloseParenthesis
returns-in-CloseParenthesis c = search rules
