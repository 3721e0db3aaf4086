use Rattle.std.proofs.Common.{rules}
use Rattle.awk_syntax.proofs.statements.end_simple_statement.Goals as goal

pub returns-in-Semicolon : goal.returns-in-Semicolon
returns-in-Semicolon c = search rules
