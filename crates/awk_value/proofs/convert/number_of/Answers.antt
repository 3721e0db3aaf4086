use Rattle.std.proofs.Common.{rules}
use Rattle.awk_value.proofs.convert.number_of.Goals as goal

pub returns-in-Text : goal.returns-in-Text
returns-in-Text c = search rules
