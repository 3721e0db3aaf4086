use Rattle.std.proofs.Common.{rules}
use Rattle.awk_value.proofs.entry.take_entry.Goals as goal

pub returns : goal.returns
returns c = search rules
