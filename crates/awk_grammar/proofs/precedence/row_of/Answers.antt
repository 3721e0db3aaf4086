use Rattle.std.proofs.Common.{rules}
use Rattle.awk_grammar.proofs.precedence.row_of.Goals as goal

pub returns-in-Less-clause-left : goal.returns-in-Less-clause-left
returns-in-Less-clause-left c = search rules

pub returns-in-And-clause-precedence : goal.returns-in-And-clause-precedence
returns-in-And-clause-precedence c = search rules
