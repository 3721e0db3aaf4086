use Rattle.std.proofs.Common.{Ok, refl, ap}
use Rattle.awk_runtime.proofs.Composition.{ready_same}
use Rattle.awk_evaluator.proofs.Computing.{computed_evaluates, computed_ready}
use Rattle.awk_evaluator.proofs.Moving.{halts, value_ends}
use Rattle.awk_evaluator.proofs.Quickly.{put_on}
use Rattle.awk_evaluator.proofs.QuickMoves.{puts_streams}
use Rattle.awk_evaluator.proofs.machine.Machine.put_any_value.Goals as goal

pub returns-in-Err : goal.returns-in-Err
returns-in-Err g c = rw (c.halt_by.ensures.halted, c.halt_by.ensures.kept) (record { ready = computed_ready (c.in-Err.ensures {u = tt}).ended c.requires.ready; moves = halts (value_ends (computed_evaluates (c.in-Err.ensures {u = tt}).ended)) refl refl })

pub returns-in-Ok-true-clause-ready : goal.returns-in-Ok-true-clause-ready
returns-in-Ok-true-clause-ready g c = ready_same (puts_streams ((c.in-Ok-true.ensures {u = tt}).puts (ap Ok c.in-Ok-true.field-0-test))) c.requires.ready

pub returns-in-Ok-true-clause-moves : goal.returns-in-Ok-true-clause-moves
returns-in-Ok-true-clause-moves g c = put_on ((c.in-Ok-true.ensures {u = tt}).puts (ap Ok c.in-Ok-true.field-0-test))
