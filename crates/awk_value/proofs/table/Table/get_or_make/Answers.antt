use Rattle.std.proofs.Common.{rules}
use Rattle.awk_value.proofs.table.Table.get_or_make.Goals as goal

pub returns-in-Some-clause-value : goal.returns-in-Some-clause-value
returns-in-Some-clause-value c = search rules
