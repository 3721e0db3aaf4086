use Rattle.std.proofs.Common.{◌≡◌, ◌≤◌, ◌-◌, length, take}
use Rattle.awk_world.specs.definitions.WorldState.{SameOpen}
use Rattle.awk_world.specs.definitions.Grows.{Grows}
use Rattle.awk_world.specs.definitions.Writes.{GoesOn, Writes}
use Rattle.awk_streams.proofs.output.write_all.Given as goal

pub record SoFar (bound same logged failed grown : Type 0) : Type 0 where
  pub within : bound
  pub same_open : same
  pub log : logged
  pub no_failure : failed
  pub grows : grown

abbrev pub invariant-loop-done : goal.invariant-loop-done
invariant-loop-done g l = let w = g.W.World in SoFar (l.done ≤ length l.bytes)
    (SameOpen (w.state l.fn.world) (w.state l.world))
    (w.is_logged → GoesOn (Writes l.id (take l.done l.bytes)) (w.state l.fn.world).log (w.state l.world).log)
    (w.is_logged → (w.state l.world).failures ≡ (w.state l.fn.world).failures)
    (w.is_logged → Grows (w.state l.fn.world) (w.state l.world))

abbrev pub decreases-loop-done : goal.decreases-loop-done
decreases-loop-done g l = length l.bytes - l.done
