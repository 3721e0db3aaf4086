use Rattle.std.proofs.Common.{rules}
use Rattle.awk_syntax.proofs.items.after_function.Goals as goal

pub returns-in_default : goal.returns-in_default
returns-in_default c = search rules
