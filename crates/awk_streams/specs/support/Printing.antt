-- What a print comes to, for every world and for one that tells its log.
use Rattle.std.specs.Prelude.{ℕ, List, Result}
use Rattle.awk_world.specs.definitions.WorldState.{WorldState}
use Rattle.awk_streams.specs.declared.fault.StreamFault.{StreamFault}
use Rattle.awk_streams.specs.declared.streams.Target.{Target}
use Rattle.awk_streams.specs.definitions.Streams.{StreamsView, AreOpen, AreSound, IsTarget}
use Rattle.awk_streams.specs.definitions.NamedOutputs.{Prints}

pub record PrintsAt (logged : Type 0) (place : Target) (bytes : List ℕ) (before : WorldState) (old : StreamsView) (result : Result (Unit {0}) StreamFault) (after : WorldState) (new : StreamsView) : Type 0 where
  pub target : IsTarget place new
  pub open_as : AreOpen after new
  pub sound : logged → AreSound after new
  pub told : logged → Prints place bytes before old result after new
