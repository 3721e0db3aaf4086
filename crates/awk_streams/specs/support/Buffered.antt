-- What printing to an output that holds back comes to.
use Rattle.std.specs.Prelude.{◌≡◌, ℕ, List, [], ◌++◌, Result, OnOk, OnErr}
use Rattle.awk_streams.specs.declared.fault.StreamFault.{StreamFault}
use Rattle.awk_world.specs.definitions.WorldState.{WorldState}
use Rattle.awk_streams.specs.definitions.Outputs.{WritesAll}

-- these bytes were printed behind those that were held back: what is written of both is a beginning, and the rest is held back,
-- or there was a failure and nothing is
pub record PrintsOrHolds (id : ℕ) (held bytes : List ℕ) (before : WorldState) (result : Result (Unit {0}) StreamFault) (held' : List ℕ) (after : WorldState) : Type 0 where
  pub written : List ℕ
  pub more : List ℕ
  pub parts : held ++ bytes ≡ written ++ more
  pub writes : WritesAll id written before result after
  pub holds : OnOk result (held' ≡ more)
  pub empty : OnErr result (held' ≡ [])
