use Rattle.std.proofs.Common.{refl, ap}
use Rattle.awk_runtime.specs.declared.runtime.Runtime.{Runtime}
use Rattle.awk_runtime.proofs.Composition.{ready_same}
use Rattle.awk_evaluator.proofs.Moving.{halts, value_ends}
use Rattle.awk_evaluator.proofs.NodeMoves.{found_moves}
use Rattle.awk_evaluator.proofs.machine.Machine.put_evaluated.Goals as goal

pub returns-in-Ok : goal.returns-in-Ok
returns-in-Ok g c = record {
  ready = ready_same (ap (λ (x : Runtime). x.streams) c.put_found.ensures.runtime) c.in-Ok.ensures.ready;
  moves = found_moves c.in-Ok.ensures.evaluates c.put_found.ensures;
}

pub returns-in-Err : goal.returns-in-Err
returns-in-Err g c = rw (c.halt_by.ensures.halted, c.halt_by.ensures.kept) (record { ready = c.in-Err.ensures.ready; moves = halts (value_ends c.in-Err.ensures.evaluates) refl refl })
