use Rattle.awk_runtime.proofs.CallWords.{height_low, height_high}
use Rattle.awk_runtime.proofs.runtime.Runtime.check_height.Goals as goal
use Rattle.std.proofs.Common.{refl}

pub returns-then-may_enter-clause-changes : goal.returns-then-may_enter-clause-changes
returns-then-may_enter-clause-changes c = height_low c.args.self.now c.args.height ((c.if-may_enter.ensures {u = tt}).may refl)

pub returns-then-may_enter-clause-low : goal.returns-then-may_enter-clause-low
returns-then-may_enter-clause-low c = (c.if-may_enter.ensures {u = tt}).may refl

pub returns-clause-changes : goal.returns-clause-changes
returns-clause-changes c = height_high c.args.self.now c.args.height ((c.if-may_enter.ensures {u = tt}).may_not refl)
