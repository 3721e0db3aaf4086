use Rattle.std.proofs.Common.{◌≡◌, take, drop, Ok}
use Rattle.awk_world.specs.definitions.WorldState.{SameOpen}
use Rattle.awk_streams.specs.definitions.Streams.{AreApart, AreSoundNamed, held_in, all_unheld}
use Rattle.awk_streams.specs.support.Held.{AreEmpty}
use Rattle.awk_streams.specs.support.Brings.{BringsHeld, AreFlushedBut}
use Rattle.awk_streams.proofs.named.bring.Given as goal

pub record SoFar (kept same none brought left failed : Type 0) : Type 0 where
  pub same_open : kept
  pub same_named : same
  pub empty : none
  pub brings : brought
  pub flushed : left
  pub no_failure : failed

abbrev pub invariant-loop-stream : goal.invariant-loop-stream
invariant-loop-stream g l = let w = g.W.World in SoFar (SameOpen (w.state l.fn.world) (w.state l.world))
    (all_unheld l.named ≡ all_unheld l.fn.named)
    (AreEmpty (take l.stream-index l.named))
    (w.is_logged → AreApart l.fn.named → AreSoundNamed (w.state l.fn.world).log l.fn.named → BringsHeld (w.state l.fn.world) (held_in l.fn.named) (Ok tt) (w.state l.world) (held_in l.named))
    (w.is_logged → AreFlushedBut (held_in l.fn.named) (w.state l.fn.world).log → AreFlushedBut (held_in (drop l.stream-index l.named)) (w.state l.world).log)
    (w.is_logged → (w.state l.world).failures ≡ (w.state l.fn.world).failures)
