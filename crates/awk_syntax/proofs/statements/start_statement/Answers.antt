use Rattle.std.proofs.Common.{refl}
use Rattle.awk_syntax.proofs.statements.start_statement.Goals as goal

pub returns-in-Newline : goal.returns-in-Newline
returns-in-Newline c = rw c.in-Newline.is refl
