use Rattle.std.proofs.Common.{rules}
use Rattle.awk_value.proofs.table.Table.remove.Goals as goal

pub returns-in-Some : goal.returns-in-Some
returns-in-Some c = search rules
