-- What was added to the log of a world.
use Rattle.std.specs.Prelude.{◌≡◌, ◌+◌, ℕ, Bool, List, ◌++◌, length, map}
use Rattle.awk_world.specs.declared.failure.Failure.{Failure}
use Rattle.awk_world.specs.Log.{Event}
use Rattle.awk_world.specs.WorldState.{WorldState}

-- a world in which these streams are open, with this log and these failures
abbrev pub with_log : (ℕ → Bool) → List Event → List Failure → WorldState
with_log is_open log failures = record { is_open = is_open; log = log; failures = failures }

-- the failures of the newer part of a log, as they stand in the whole
abbrev pub behind : List Event → List Failure → List Failure
behind older failures = map (λ (f : Failure). record f { at = f.at + length older }) failures

-- the world's log and its failures went on by these newer ones
pub record Adds (before : WorldState) (log : List Event) (failures : List Failure) (after : WorldState) : Type 0 where
  pub logs : after.log ≡ log ++ before.log
  pub fails : after.failures ≡ behind before.log failures ++ before.failures
