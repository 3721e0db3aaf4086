use Rattle.std.proofs.Common.{rules}
use Rattle.awk_text.proofs.whole.format_into.Goals as goal

pub returns-clause-text : goal.returns-clause-text
returns-clause-text c = search rules
