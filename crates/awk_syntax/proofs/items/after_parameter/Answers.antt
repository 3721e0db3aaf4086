use Rattle.std.proofs.Common.{rules}
use Rattle.awk_syntax.proofs.items.after_parameter.Goals as goal

pub returns-in-Comma : goal.returns-in-Comma
returns-in-Comma c = search rules
