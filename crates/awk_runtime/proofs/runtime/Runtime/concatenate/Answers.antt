use Rattle.awk_runtime.proofs.TextChanges.{made_changes}
use Rattle.awk_runtime.proofs.runtime.Runtime.concatenate.Goals as goal

pub returns : goal.returns
returns c = made_changes _ c.append.result c.append.ensures.text c.append.ensures.fault
