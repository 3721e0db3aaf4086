use Rattle.std.proofs.Common.{rules}
use Rattle.awk_storage.proofs.control.Control.pop.Goals as goal

pub returns-clause-some : goal.returns-clause-some
returns-clause-some c = search rules
