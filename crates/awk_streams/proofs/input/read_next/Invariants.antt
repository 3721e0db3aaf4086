use Rattle.std.proofs.Common.{◌≡◌, length}
use Rattle.awk_world.specs.definitions.WorldState.{SameOpen}
use Rattle.awk_world.specs.definitions.Grows.{Grows}
use Rattle.awk_streams.specs.definitions.Inputs.{Reaches}
use Rattle.awk_streams.specs.support.Pulls.{room_of}
use Rattle.awk_streams.proofs.input.read_next.Given as goal

pub record SoFar (same reached failed grown : Type 0) : Type 0 where
  pub same_open : same
  pub reaches : reached
  pub no_failure : failed
  pub grows : grown

abbrev pub invariant-loop-step : goal.invariant-loop-step
invariant-loop-step g l = let w = g.W.World in SoFar (SameOpen (w.state l.fn.world) (w.state l.world))
    (w.is_logged → Reaches l.id l.separator l.fn.buffer (w.state l.fn.world).log l.buffer (w.state l.world).log)
    (w.is_logged → (w.state l.world).failures ≡ (w.state l.fn.world).failures)
    (w.is_logged → Grows (w.state l.fn.world) (w.state l.world))

abbrev pub decreases-loop-step : goal.decreases-loop-step
decreases-loop-step g l = room_of l.buffer.ending (length l.buffer.bytes)
