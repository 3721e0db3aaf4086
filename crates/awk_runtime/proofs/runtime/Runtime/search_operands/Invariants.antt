use Rattle.std.proofs.Common.{◌≡◌, ℕ, List, None, Option, Result}
use Rattle.awk_streams.specs.WorldState.{WorldState}
use Rattle.awk_semantics.specs.declared.halt.Halt.{Halt}
use Rattle.awk_runtime.specs.declared.runtime.Runtime.{Runtime}
use Rattle.awk_runtime.specs.support.Simulation.{IsReady}
use Rattle.awk_runtime.specs.support.Inputs.{SearchesOn}
use Rattle.awk_runtime.proofs.runtime.Runtime.search_operands.Given as goal

abbrev pub invariant-loop-word : goal.invariant-loop-word
invariant-loop-word g l = record {
  on : (new : Runtime) (after : WorldState) (r : Result (Option (List ℕ)) Halt) →
      SearchesOn g.W.World.is_logged l.self (g.W.World.state l.world) new after r →
      SearchesOn g.W.World.is_logged l.fn.self (g.W.World.state l.fn.world) new after r;
  none : l.self.streams.main ≡ None;
  ready : IsReady g.W.World.is_logged (g.W.World.state l.world) l.self.streams;
}

abbrev pub decreases-loop-word : goal.decreases-loop-word
decreases-loop-word g l = l.self.steps
