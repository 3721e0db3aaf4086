use Rattle.std.proofs.Common.{refl}
use Rattle.awk_runtime.proofs.Composition.{ready_same}
use Rattle.awk_evaluator.proofs.Quickly.{put_on}
use Rattle.awk_evaluator.proofs.QuickMoves.{puts_streams}
use Rattle.awk_evaluator.proofs.machine.Machine.put_value.Goals as goal

pub returns-then-put_quickly-clause-ready : goal.returns-then-put_quickly-clause-ready
returns-then-put_quickly-clause-ready g c = ready_same (puts_streams ((c.if-put_quickly.ensures {u = tt}).puts refl)) c.requires.ready

pub returns-then-put_quickly-clause-moves : goal.returns-then-put_quickly-clause-moves
returns-then-put_quickly-clause-moves g c = put_on ((c.if-put_quickly.ensures {u = tt}).puts refl)
