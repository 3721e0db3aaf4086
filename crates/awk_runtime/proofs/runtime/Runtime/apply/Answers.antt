use Rattle.awk_runtime.proofs.TextChanges.{room, lift_beside}
use Rattle.awk_runtime.proofs.runtime.Runtime.apply.Goals as goal

pub returns : goal.returns
returns c = let m = c.args.self.now in lift_beside _ (room m c.apply.new.patterns m.formats m.spans) c.apply.ensures
