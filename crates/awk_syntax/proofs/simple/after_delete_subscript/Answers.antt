use Rattle.std.proofs.Common.{rules}
use Rattle.awk_syntax.proofs.simple.after_delete_subscript.Goals as goal

pub returns-in_ok-statement-in-CloseBracket : goal.returns-in_ok-statement-in-CloseBracket
returns-in_ok-statement-in-CloseBracket c = search rules
