use Rattle.std.proofs.Common.{◌≡◌, List, take, Ok}
use Rattle.awk_streams.specs.declared.named.NamedStream.{NamedStream}
use Rattle.awk_streams.specs.definitions.Streams.{StreamsView, AreOpen, AreSound}
use Rattle.awk_streams.specs.definitions.Flushes.{is_number_among}
use Rattle.awk_streams.specs.support.Flushing.{BringsSome, emptied_to}
use Rattle.awk_streams.proofs.streams.Streams.bring_called.Given as goal

pub record SoFar (same opened sounds brought : Type 0) : Type 0 where
  pub view : same
  pub open_as : opened
  pub sound : sounds
  pub brings : brought

abbrev with_named : StreamsView → List NamedStream → StreamsView
with_named s xs = record s { named = xs }

abbrev pub invariant-loop-place : goal.invariant-loop-place
invariant-loop-place g l = let w = g.W.World in SoFar (l.self ≡ with_named l.fn.self (emptied_to l.place l.text l.fn.self.named))
    (AreOpen (w.state l.world) l.self)
    (w.is_logged → AreSound (w.state l.world) l.self)
    (w.is_logged → BringsSome (is_number_among l.text (take l.place l.fn.self.named)) (w.state l.fn.world) l.fn.self (Ok tt) (w.state l.world) l.self)
