use Rattle.awk_runtime.proofs.TextChanges.{room, lift_beside}
use Rattle.awk_runtime.proofs.runtime.Runtime.apply_function.Goals as goal

pub returns : goal.returns
returns c = let m = c.args.self.now in lift_beside _ (room m m.patterns c.apply_function.new.formats m.spans) c.apply_function.ensures
