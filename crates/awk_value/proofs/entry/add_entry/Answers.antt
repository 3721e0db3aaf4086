use Rattle.std.proofs.Common.{rules}
use Rattle.awk_value.proofs.entry.add_entry.Goals as goal

pub returns-clause-added : goal.returns-clause-added
returns-clause-added c = search rules
