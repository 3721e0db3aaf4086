use Rattle.std.proofs.Common.{rules}
use Rattle.awk_grammar.proofs.tree.BinaryOperator.precedence.Goals as goal

pub returns : goal.returns
returns c = search rules
