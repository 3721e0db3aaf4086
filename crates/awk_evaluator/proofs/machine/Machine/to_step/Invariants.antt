use Rattle.std.proofs.Common.{length}
use Rattle.awk_runtime.specs.Simulation.{IsReady}
use Rattle.awk_evaluator.specs.Rest.{AtPlace}
use Rattle.awk_evaluator.specs.Moves.{Leads}
use Rattle.awk_evaluator.proofs.machine.Machine.to_step.Given as goal

abbrev pub invariant-returns : goal.invariant-returns
invariant-returns g l =
    let state = g.W.World.state in
    record {
      ready : IsReady g.W.World.is_logged (state l.world) l.self.runtime.streams;
      leads : Leads g.W.World.is_logged l.plan (AtPlace l.fn.start) l.fn.self (state l.fn.world) l.at l.self (state l.world);
    }

abbrev pub decreases-returns : goal.decreases-returns
decreases-returns g l = length l.self.runtime.frames.callers
