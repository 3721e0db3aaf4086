use Rattle.std.proofs.Common.{rules}
use Rattle.awk_value.proofs.entry.set_entry.Goals as goal

pub returns-in-Some-clause-set : goal.returns-in-Some-clause-set
returns-in-Some-clause-set c = search rules
