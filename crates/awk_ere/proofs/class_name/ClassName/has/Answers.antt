use Rattle.std.proofs.Common.{rules}
use Rattle.awk_ere.proofs.class_name.ClassName.has.Goals as goal

pub returns-in-Digit : goal.returns-in-Digit
returns-in-Digit c = search rules
