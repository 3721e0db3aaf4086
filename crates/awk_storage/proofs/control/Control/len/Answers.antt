use Rattle.std.proofs.Common.{rules}
use Rattle.awk_storage.proofs.control.Control.len.Goals as goal

pub returns-clause-count : goal.returns-clause-count
returns-clause-count c = search rules
