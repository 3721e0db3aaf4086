-- How a log goes on, and what an output has received.
use Rattle.std.specs.Prelude.{◌≡◌, ℕ, Bool, List, [], ◌∷◌, ◌++◌, Some, ◌==◌, if◌then◌else◌}
use Rattle.awk_world.specs.definitions.Log.{Event, OpenedOutput, Wrote, Flushed}

-- the log after these events, the oldest of them first
abbrev pub with_events : List Event → List Event → List Event
with_events [] log = log
with_events (e ∷ es) log = with_events es (e ∷ log)

-- the log goes on by events of which P holds, the oldest of them first
pub record GoesOn (P : List Event → Type 0) (old new : List Event) : Type 0 where
  pub events : List Event
  pub log : new ≡ with_events events old
  pub each : P events

-- these events write just these bytes to the output
abbrev pub Writes : ℕ → List ℕ → List Event → Type 0
Writes id bytes [] = bytes ≡ []
Writes id bytes (Wrote i bs ∷ es) = (i ≡ id) × ((rest : List ℕ) × (bytes ≡ bs ++ rest) × Writes id rest es)
Writes id bytes (e ∷ es) = ⊥

-- nothing was done but writing to this output
abbrev pub OnlyWritesTo : ℕ → List Event → List Event → Type 0
OnlyWritesTo id old new = (bytes : List ℕ) × GoesOn (Writes id bytes) old new

abbrev pub flushed_if : Bool → ℕ → List Event → List Event
flushed_if done id log = if done then Flushed id ∷ log else log

-- what an output has received after one more event: an opening of it starts anew
abbrev pub received_after : ℕ → Event → List ℕ → List ℕ
received_after id (Wrote i bs) bytes = if i == id then bytes ++ bs else bytes
received_after id (OpenedOutput kind name mode (Some i)) bytes = if i == id then [] else bytes
received_after id e bytes = bytes

-- what an output has received since it was opened
abbrev pub received : ℕ → List Event → List ℕ
received id [] = []
received id (e ∷ older) = received_after id e (received id older)
