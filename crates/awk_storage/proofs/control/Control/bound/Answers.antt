use Rattle.std.proofs.Common.{rules}
use Rattle.awk_storage.proofs.control.Control.bound.Goals as goal

pub returns-clause-bound : goal.returns-clause-bound
returns-clause-bound c = search rules
