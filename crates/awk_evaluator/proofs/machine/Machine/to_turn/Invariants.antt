use Rattle.std.proofs.Common.{◌≡◌, Some, slice_get}
use Rattle.awk_runtime.specs.Simulation.{IsReady}
use Rattle.awk_evaluator.specs.Rest.{AtPlace}
use Rattle.awk_evaluator.specs.Moves.{Leads}
use Rattle.awk_evaluator.proofs.machine.Machine.to_turn.Given as goal

abbrev pub invariant-moves : goal.invariant-moves
invariant-moves g l =
    let state = g.W.World.state in
    record {
      ready : IsReady g.W.World.is_logged (state l.world) l.self.runtime.streams;
      leads : Leads g.W.World.is_logged l.plan (AtPlace l.fn.start) l.fn.self (state l.fn.world) l.at l.self (state l.world);
      calls : l.self.runtime.frames.callers ≡ l.fn.self.runtime.frames.callers;
      here : Some l.node ≡ slice_get l.plan.nodes.items l.at;
    }

abbrev pub decreases-moves : goal.decreases-moves
decreases-moves g l = l.at
