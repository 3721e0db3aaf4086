use Rattle.std.proofs.Common.{rules}
use Rattle.awk_syntax.proofs.operands.start_operand.Goals as goal

pub returns-in-Operator-Minus : goal.returns-in-Operator-Minus
returns-in-Operator-Minus c = search rules
