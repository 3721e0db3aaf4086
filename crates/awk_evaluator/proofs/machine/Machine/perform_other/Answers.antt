use Rattle.std.proofs.Common.{ap}
use Rattle.awk_runtime.specs.declared.runtime.Runtime.{Runtime}
use Rattle.awk_runtime.proofs.Composition.{ready_same}
use Rattle.awk_evaluator.proofs.Parts.{performs_kept}
use Rattle.awk_evaluator.proofs.machine.Machine.perform_other.Goals as goal

pub returns-clause-ready : goal.returns-clause-ready
returns-clause-ready g c = ready_same (ap (λ (x : Runtime). x.streams) c.is_done.ensures.kept.runtime) c.act-performed.ensures.ready

pub returns-clause-performs : goal.returns-clause-performs
returns-clause-performs g c = performs_kept c.is_done.ensures.kept c.is_done.ensures.came c.act-performed.ensures.performs
