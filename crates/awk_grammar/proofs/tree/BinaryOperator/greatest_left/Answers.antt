use Rattle.std.proofs.Common.{rules}
use Rattle.awk_grammar.proofs.tree.BinaryOperator.greatest_left.Goals as goal

pub returns : goal.returns
returns c = search rules
