use Rattle.std.proofs.Common.{rules}
use Rattle.awk_syntax.proofs.items.after_pattern.Goals as goal

pub returns-in_ok-head-in-OpenBrace : goal.returns-in_ok-head-in-OpenBrace
returns-in_ok-head-in-OpenBrace c = search rules
