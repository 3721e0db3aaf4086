use Rattle.awk_runtime.proofs.TextChanges.{made_changes}
use Rattle.awk_runtime.proofs.runtime.Runtime.concatenate_all.Goals as goal

pub returns : goal.returns
returns c = made_changes _ c.concatenate_all.result c.concatenate_all.ensures.text c.concatenate_all.ensures.fault
