use Rattle.std.proofs.Common.{rules}
use Rattle.awk_value.proofs.table.Table.get_or_make_number.Goals as goal

pub returns-in-Ok-clause-made : goal.returns-in-Ok-clause-made
returns-in-Ok-clause-made c = search rules
