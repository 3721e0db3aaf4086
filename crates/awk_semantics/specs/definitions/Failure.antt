-- What a failure of the outside, or want of memory, leaves of a run (POSIX awk, EXIT STATUS; CONSEQUENCES OF ERRORS).
use Rattle.std.specs.Prelude.{◌≡◌, ◌⊎◌, ℕ, true, List, [], ◌∷◌, ◌++◌, length, Some}
use Rattle.awk_world.specs.declared.failure.Failure.{Failure}
use Rattle.awk_world.specs.declared.world.WorldFault.{WorldFault}
use Rattle.awk_world.specs.declared.world.WorldFault.TheVariants.{Memory, Failed}
use Rattle.awk_streams.specs.Log.{Event}
use Rattle.awk_streams.specs.Oracle.{Oracle, IsConsistent}
use Rattle.awk_streams.specs.Writes.{with_events}
use Rattle.awk_streams.specs.Openings.{outputs_of, Begins}
use Rattle.awk_streams.specs.WorldState.{WorldState, is_any, first_of}
use Rattle.awk_streams.specs.Lost.{AreBroughtBut}
pub use Rattle.awk_streams.specs.Commands.{AreOfTheEnd}
use Rattle.awk_grammar.specs.Tree.{Item}
use Rattle.awk_semantics.specs.declared.fault as declared
use Rattle.awk_semantics.specs.declared.fault.Fault.TheVariants.{OutOfMemory, WriteFailed}
use Rattle.awk_semantics.specs.declared.outcome.Outcome.{Outcome}
use Rattle.awk_semantics.specs.declared.outcome.Outcome.TheVariants.{Fault}
use Rattle.awk_semantics.specs.definitions.State.{Request, Ends, Effect}
use Rattle.awk_semantics.specs.definitions.Meaning.{StartValues, start_state, assign_and_run, Asked, Meaning, first_outputs, outputs_after, requests_from}
use Rattle.awk_semantics.specs.definitions.Order.{Stage, MeetsAll, first_stage}

-- the requests before the end
abbrev pub front_of : Request → Asked → List Asked → List Asked
front_of Ends asked more = []
front_of what asked more = asked ∷ more

abbrev pub before_end : List Asked → List Asked
before_end [] = []
before_end (asked ∷ more) = front_of asked.what asked (before_end more)

-- a log that met the first of the requests, in turn, and did nothing else
pub record MeetsFirst (oracle : Oracle) (requests : List Asked) (log : List Event) : Type 0 where
  pub met : List Asked
  pub others : List Asked
  pub parts : requests ≡ met ++ others
  pub last : Stage
  pub at : last.log ≡ log
  pub meets : MeetsAll oracle met first_stage last

-- a run that was cut short: its log met the first of the meaning's requests before the end, and then is of the end alone
pub record IsCutShort (oracle : Oracle) (meaning : Meaning) (log : List Event) : Type 0 where
  pub earlier : List Event
  pub later : List Event
  pub parts : log ≡ with_events later earlier
  pub turn : MeetsFirst oracle (before_end meaning.requests) earlier
  pub ends : AreOfTheEnd later

-- what a run shows, up to its end
abbrev pub effects_of : List Item → StartValues → Oracle → ℕ → List Effect
effects_of items start oracle limit = (assign_and_run items limit start.pre (start_state items start oracle limit)).effects

-- a run that was cut between two of its effects: its log met the requests of those before the cut, in turn, and then is of the end
-- alone; each opening of an output has received just what those print, and was flushed, but for those of which a write or a flush
-- failed
pub record IsCutBetween (oracle : Oracle) (effects : List Effect) (failures : List Failure) (log : List Event) : Type 0 where
  pub done : List Effect
  pub others : List Effect
  pub parts : effects ≡ done ++ others
  pub earlier : List Event
  pub later : List Event
  pub adds : log ≡ with_events later earlier
  pub last : Stage
  pub at : last.log ≡ earlier
  pub turn : MeetsAll oracle (requests_from first_outputs done) first_stage last
  pub ends : AreOfTheEnd later
  pub brought : AreBroughtBut failures (outputs_after done) log

-- a fault that the meaning had settled before: this log meets all its requests before the end
pub record IsSettled (oracle : Oracle) (meaning : Meaning) (log : List Event) (result : Outcome) : Type 0 where
  pub fault : declared.Fault.Fault
  pub is : result ≡ Fault fault
  pub outcome : meaning.outcome ≡ result
  pub last : Stage
  pub at : last.log ≡ log
  pub meets : MeetsAll oracle (before_end meaning.requests) first_stage last

-- the fault that a failure of the world is: refused memory, or a failed write or flush
abbrev pub fault_of : WorldFault → declared.Fault.Fault
fault_of Memory = OutOfMemory
fault_of Failed = WriteFailed

-- the fault that the first failure is, want of memory of the run's own, or a fault that was settled when the log was this
abbrev pub FailsAs : Oracle → Meaning → List Event → WorldFault → Outcome → Type 0
FailsAs oracle meaning log what result = (result ≡ Fault (fault_of what)) ⊎ ((result ≡ Fault OutOfMemory) ⊎ IsSettled oracle meaning log result)

-- A log at this first failure, which had met the first of the requests then; after it the run only ended, by the later events,
-- the oldest first.
pub record FailsAt (meaning_by : Oracle → Meaning) (failure : Failure) (log : List Event) (result : Outcome) : Type 0 where
  pub earlier : List Event
  pub later : List Event
  pub parts : log ≡ with_events later earlier
  pub count : length earlier ≡ failure.at
  pub turn : (oracle : Oracle) → IsConsistent oracle log → MeetsFirst oracle (before_end (meaning_by oracle).requests) earlier
  pub ends : AreOfTheEnd later
  pub fails : (oracle : Oracle) → IsConsistent oracle log → FailsAs oracle (meaning_by oracle) earlier failure.what result

-- a run that met a failure of the world, or found no memory: its outputs are beginnings of the meaning's, and it asked the world
-- for nothing but what the meaning asks, in turn, before it ended; a failed write is its outcome only where the first failure was a
-- failed write or flush
pub record Fails (meaning_by : Oracle → Meaning) (world : WorldState) (result : Outcome) : Type 0 where
  pub begins : (is_any world.failures ≡ true) ⊎ (result ≡ Fault OutOfMemory) → (oracle : Oracle) → IsConsistent oracle world.log → Begins (outputs_of world.log) (meaning_by oracle).outputs
  pub short : (is_any world.failures ≡ true) ⊎ (result ≡ Fault OutOfMemory) → (oracle : Oracle) → IsConsistent oracle world.log → IsCutShort oracle (meaning_by oracle) world.log
  pub at : (failure : Failure) → first_of world.failures ≡ Some failure → FailsAt meaning_by failure world.log result
  pub blamed : result ≡ Fault WriteFailed → (failure : Failure) × (first_of world.failures ≡ Some failure) × (failure.what ≡ Failed)
