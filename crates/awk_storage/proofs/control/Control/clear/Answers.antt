use Rattle.std.proofs.Common.{rules}
use Rattle.awk_storage.proofs.control.Control.clear.Goals as goal

pub invariant_of-self : goal.invariant_of-self
invariant_of-self c = search rules
