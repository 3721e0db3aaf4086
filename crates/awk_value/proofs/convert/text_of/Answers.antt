use Rattle.std.proofs.Common.{rules}
use Rattle.awk_value.proofs.convert.text_of.Goals as goal

pub returns-clause-text : goal.returns-clause-text
returns-clause-text c = search rules
