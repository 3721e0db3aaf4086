use Rattle.std.proofs.Common.{rules}
use Rattle.awk_value.proofs.table.Table.has.Goals as goal

pub returns : goal.returns
returns c = search rules
