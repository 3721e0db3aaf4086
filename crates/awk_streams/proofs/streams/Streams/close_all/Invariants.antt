use Rattle.std.proofs.Common.{◌≡◌, ℤ, pos, length, []}
use Rattle.awk_streams.specs.definitions.Streams.{StreamsView, AreOpen, AreSound}
use Rattle.awk_streams.specs.definitions.Commands.{all_names}
use Rattle.awk_streams.specs.support.Held.{HoldsNothing}
use Rattle.awk_streams.specs.support.ClosesSoFar.{ClosesSome}
use Rattle.awk_streams.proofs.streams.Streams.close_all.Given as goal

pub record SoFar (same none opened sounds closed : Type 0) : Type 0 where
  pub rest : same
  pub empty : none
  pub open_as : opened
  pub sound : sounds
  pub closes : closed

abbrev without_named : StreamsView → StreamsView
without_named s = record s { named = [] }

abbrev pub invariant-loop-self : goal.invariant-loop-self
invariant-loop-self g l = let w = g.W.World in SoFar (without_named l.self ≡ without_named l.fn.self)
    (HoldsNothing l.self)
    (AreOpen (w.state l.world) l.self)
    (w.is_logged → AreSound (w.state l.world) l.self)
    (w.is_logged → (answer : ℤ) × ClosesSome (all_names l.fn.self.named) (all_names l.self.named) (pos 0) (w.state l.fn.world) l.fn.self answer (w.state l.world) l.self)

abbrev pub decreases-loop-self : goal.decreases-loop-self
decreases-loop-self g l = length l.self.named
