use Rattle.awk_runtime.proofs.Composition.{lift_changes}
use Rattle.awk_runtime.proofs.runtime.Runtime.change.Goals as goal

pub returns : goal.returns
returns c = lift_changes _ c.args.self.now c.change.ensures
