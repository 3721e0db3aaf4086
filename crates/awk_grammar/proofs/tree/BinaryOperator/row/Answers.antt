use Rattle.std.proofs.Common.{rules}
use Rattle.awk_grammar.proofs.tree.BinaryOperator.row.Goals as goal

pub returns-in-Concatenate-clause-precedence : goal.returns-in-Concatenate-clause-precedence
returns-in-Concatenate-clause-precedence c = search rules
