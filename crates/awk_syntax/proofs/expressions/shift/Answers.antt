use Rattle.std.proofs.Common.{rules}
use Rattle.awk_syntax.proofs.expressions.shift.Goals as goal

pub returns-after-matches : goal.returns-after-matches
returns-after-matches c = search rules
