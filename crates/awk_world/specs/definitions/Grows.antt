-- The log of a world goes on, and so do its failures.
use Rattle.std.specs.Prelude.{◌≡◌, ◌≤◌, ℕ, List, [], ◌∷◌, ◌++◌, length}
use Rattle.awk_world.specs.declared.failure.Failure.{Failure}
use Rattle.awk_world.specs.definitions.Log.{Event}
use Rattle.awk_world.specs.definitions.WorldState.{WorldState}
use Rattle.awk_world.specs.definitions.Oracle.{Oracle, IsConsistent}
use Rattle.awk_world.specs.definitions.Writes.{with_events}

-- each of these failures was met where the log held at least so many events, and at most so many
abbrev pub AreBetween : (least most : ℕ) → List Failure → Type 0
AreBetween least most [] = Unit {0}
AreBetween least most (f ∷ failures) = ((least ≤ f.at) × (f.at ≤ most)) × AreBetween least most failures

-- the log goes on by these events, the oldest first, so what is consistent with what it became is consistent with what it
-- was; the failures go on by newer ones, each met where the log was meanwhile
pub record Grows (before after : WorldState) : Type 0 where
  pub events : List Event
  pub log : after.log ≡ with_events events before.log
  pub consistent : (a : Oracle) → IsConsistent a after.log → IsConsistent a before.log
  pub newer : List Failure
  pub failures : after.failures ≡ newer ++ before.failures
  pub met : AreBetween (length before.log) (length after.log) newer
