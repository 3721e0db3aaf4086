-- What is known of a world: its open streams, its log, and its failures; and how calls change it.
use Rattle.std.specs.Prelude.{◌≡◌, ◌⊎◌, ◌≤◌, ℕ, Bool, true, false, List, [], ◌∷◌, length, Option, Some, None, ◌==◌, if◌then◌else◌}
use Rattle.awk_world.specs.declared.failure.Failure.{Failure}
use Rattle.awk_world.specs.declared.world.WorldFault.{WorldFault}
use Rattle.awk_world.specs.declared.world.WorldFault.TheVariants.{Memory}
use Rattle.awk_world.specs.definitions.Log.{Event, Noted, logged, failures_after}

pub record WorldState : Type 0 where
  pub is_open : ℕ → Bool
  -- the newest event first
  pub log : List Event
  -- each refused memory, failed write and failed flush, the newest first
  pub failures : List Failure

-- whether there was a failure
abbrev pub is_any : List Failure → Bool
is_any [] = false
is_any (f ∷ failures) = true

-- the last of these failures and one before them in the list
abbrev pub first_behind : Failure → List Failure → Failure
first_behind f [] = f
first_behind f (g ∷ failures) = first_behind g failures

-- the first failure, which the list has last
abbrev pub first_of : List Failure → Option Failure
first_of [] = None
first_of (f ∷ failures) = Some (first_behind f failures)

-- a call adds its event to the log, or its failure to the failures
abbrev pub Logs : Noted → WorldState → WorldState → Type 0
Logs noted old new = (new.log ≡ logged noted old.log) × (new.failures ≡ failures_after noted old.log old.failures)

-- a number under which nothing is open, and no standard output's
pub record IsFresh (state : WorldState) (id : ℕ) : Type 0 where
  pub not_open : state.is_open id ≡ false
  pub named : 2 ≤ id

abbrev pub Opens : WorldState → WorldState → ℕ → Type 0
Opens old new id = (j : ℕ) → new.is_open j ≡ (if j == id then true else old.is_open j)

abbrev pub Closes : WorldState → WorldState → ℕ → Type 0
Closes old new id = (j : ℕ) → new.is_open j ≡ (if j == id then false else old.is_open j)

abbrev pub SameOpen : WorldState → WorldState → Type 0
SameOpen old new = (j : ℕ) → new.is_open j ≡ old.is_open j

-- this ended with a failure of this kind, the only one that it met
abbrev pub FailsNow : WorldFault → WorldState → WorldState → Type 0
FailsNow what before after = (output : Option ℕ) × (after.failures ≡ record { at = length after.log; output = output; what = what } ∷ before.failures)

-- this met no failure, or ended with refused memory
abbrev pub MayFailNow : WorldState → WorldState → Type 0
MayFailNow before after = (after.failures ≡ before.failures) ⊎ FailsNow Memory before after

-- this met no failure, or ended with refused memory that was for no output
abbrev pub MayFailInside : WorldState → WorldState → Type 0
MayFailInside before after = (after.failures ≡ before.failures) ⊎ (after.failures ≡ record { at = length after.log; output = None; what = Memory } ∷ before.failures)
