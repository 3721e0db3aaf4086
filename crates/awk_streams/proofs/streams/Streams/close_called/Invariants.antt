use Rattle.std.proofs.Common.{◌≡◌, negsuc, length}
use Rattle.awk_streams.specs.definitions.Streams.{AreOpen, AreSound}
use Rattle.awk_streams.specs.definitions.Commands.{names_called}
use Rattle.awk_streams.specs.support.Held.{HoldsNothing}
use Rattle.awk_streams.specs.support.ClosesSoFar.{ClosesSome}
use Rattle.awk_streams.proofs.streams.Streams.close_called.Given as goal

pub record SoFar (same none opened sounds closed : Type 0) : Type 0 where
  pub main : same
  pub empty : none
  pub open_as : opened
  pub sound : sounds
  pub closes : closed

abbrev pub invariant-loop-place : goal.invariant-loop-place
invariant-loop-place g l = let w = g.W.World in SoFar (l.self.main ≡ l.fn.self.main)
    (HoldsNothing l.self)
    (AreOpen (w.state l.world) l.self)
    (w.is_logged → AreSound (w.state l.world) l.self)
    (w.is_logged → ClosesSome (names_called l.text l.fn.self.named) (names_called l.text l.self.named) (negsuc 0) (w.state l.fn.world) l.fn.self l.answer (w.state l.world) l.self)

abbrev pub decreases-loop-place : goal.decreases-loop-place
decreases-loop-place g l = length l.self.named
