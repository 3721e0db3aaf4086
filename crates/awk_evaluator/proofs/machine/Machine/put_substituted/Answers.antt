use Rattle.std.proofs.Common.{refl, ap}
use Rattle.awk_runtime.specs.declared.runtime.Runtime.{Runtime}
use Rattle.awk_runtime.proofs.Composition.{ready_same}
use Rattle.awk_evaluator.proofs.Computing.{computed_evaluates, computed_ready}
use Rattle.awk_evaluator.proofs.Moving.{halts, value_ends}
use Rattle.awk_evaluator.proofs.NodeMoves.{found_moves}
use Rattle.awk_evaluator.proofs.machine.Machine.put_substituted.Goals as goal

pub returns-in-Ok : goal.returns-in-Ok
returns-in-Ok g c = record {
  ready = ready_same (ap (λ (x : Runtime). x.streams) c.put_found.ensures.runtime) (computed_ready c.in-Ok.ensures c.requires.ready);
  moves = found_moves (computed_evaluates c.in-Ok.ensures) c.put_found.ensures;
}

pub returns-in-Err : goal.returns-in-Err
returns-in-Err g c = rw (c.halt_by.ensures.halted, c.halt_by.ensures.kept) (record { ready = computed_ready c.in-Err.ensures c.requires.ready; moves = halts (value_ends (computed_evaluates c.in-Err.ensures)) refl refl })
