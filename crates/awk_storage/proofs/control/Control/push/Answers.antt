use Rattle.std.proofs.Common.{rules}
use Rattle.awk_storage.proofs.control.Control.push.Goals as goal

pub returns-clause-entries : goal.returns-clause-entries
returns-clause-entries c = search rules
