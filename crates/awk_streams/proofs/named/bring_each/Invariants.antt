use Rattle.std.proofs.Common.{◌≡◌, take, drop, Result}
use Rattle.std.specs.Prelude.{IfErr, OnOk}
use Rattle.std.specs.Result.{result_and}
use Rattle.awk_world.specs.definitions.WorldState.{WorldState, SameOpen}
use Rattle.awk_streams.specs.declared.fault.StreamFault.{StreamFault}
use Rattle.awk_streams.specs.definitions.Outputs.{IsOutputFault}
use Rattle.awk_streams.specs.definitions.Streams.{AreApart, AreSoundNamed, held_in, all_unheld}
use Rattle.awk_streams.specs.definitions.Commands.{BringsEach}
use Rattle.awk_streams.specs.support.Held.{AreEmpty}
use Rattle.awk_streams.specs.support.Brings.{BringsHeld, AreFlushedBut}
use Rattle.awk_streams.proofs.named.bring_each.Given as goal

pub record SoFar (kept same none fault' brought left behind : Type 0) : Type 0 where
  pub same_open : kept
  pub same_named : same
  pub empty : none
  pub fault : fault'
  pub brings : brought
  pub flushed : left
  pub each : behind

abbrev pub invariant-loop-stream : goal.invariant-loop-stream
invariant-loop-stream g l = let w = g.W.World in SoFar (SameOpen (w.state l.fn.world) (w.state l.world))
    (all_unheld l.named ≡ all_unheld l.fn.named)
    (AreEmpty (take l.stream-index l.named))
    (IfErr l.brought IsOutputFault)
    (w.is_logged → AreApart l.fn.named → AreSoundNamed (w.state l.fn.world).log l.fn.named → BringsHeld (w.state l.fn.world) (held_in l.fn.named) l.brought (w.state l.world) (held_in l.named))
    (w.is_logged → OnOk l.brought (AreFlushedBut (held_in l.fn.named) (w.state l.fn.world).log → AreFlushedBut (held_in (drop l.stream-index l.named)) (w.state l.world).log))
    (w.is_logged → (rest : Result (Unit {0}) StreamFault) (after : WorldState) → BringsEach (held_in (drop l.stream-index l.named)) (w.state l.world) rest after → BringsEach (held_in l.fn.named) (w.state l.fn.world) (result_and l.brought rest) after)
