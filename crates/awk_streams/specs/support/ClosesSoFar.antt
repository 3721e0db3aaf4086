-- Closings in turn, as far as they have come.
use Rattle.std.specs.Prelude.{◌≡◌, ℤ, List, ◌++◌}
use Rattle.awk_world.specs.definitions.WorldState.{WorldState}
use Rattle.awk_streams.specs.definitions.Named.{Named}
use Rattle.awk_streams.specs.definitions.Streams.{StreamsView}
use Rattle.awk_streams.specs.definitions.Commands.{ClosesEach}

-- of all these streams the first were closed, and these are left
pub record ClosesSome (all left : List Named) (first : ℤ) (before : WorldState) (old : StreamsView) (answer : ℤ) (after : WorldState) (new : StreamsView) : Type 0 where
  pub done : List Named
  pub parts : all ≡ done ++ left
  pub closes : ClosesEach done first before old answer after new
