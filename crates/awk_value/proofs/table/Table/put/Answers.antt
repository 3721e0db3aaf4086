use Rattle.std.proofs.Common.{rules}
use Rattle.awk_value.proofs.table.Table.put.Goals as goal

pub returns-in-Some-new-clause-put : goal.returns-in-Some-new-clause-put
returns-in-Some-new-clause-put c = search rules
