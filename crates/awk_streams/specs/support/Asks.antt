-- What the parts of the calls come to: asking the world for a stream, and an input for a record.
use Rattle.std.specs.Prelude.{◌≡◌, ◌≢◌, ℕ, Bool, true, false, List, [], ◌∷◌, ◌++◌, length, Some, None, is_some, Result, Ok, Err, OnOk, OnErr}
use Rattle.std.specs.List.{position}
use Rattle.awk_record.specs.declared.buffer.Step.{Step}
use Rattle.awk_record.specs.declared.buffer.Step.TheVariants.{Record, NeedMore, End, Broken}
use Rattle.awk_record.specs.declared.buffer_fault.BufferFault.{BufferFault}
use Rattle.awk_record.specs.declared.buffer_fault.BufferFault.TheVariants.{Memory as BufferMemory}
use Rattle.awk_world.specs.declared.world.InputKind.{InputKind}
use Rattle.awk_world.specs.declared.world.OutputKind.{OutputKind}
use Rattle.awk_world.specs.declared.world.Mode.{Mode}
use Rattle.awk_world.specs.definitions.Log.{Event, OpenedInput, OpenedOutput}
use Rattle.awk_world.specs.definitions.WorldState.{WorldState, SameOpen, IsFresh, Opens, MayFailInside, is_any}
use Rattle.awk_world.specs.definitions.Openings.{openings, in_order, Begins}
use Rattle.awk_world.specs.definitions.Grows.{Grows}
use Rattle.awk_streams.specs.declared.fault.StreamFault.{StreamFault}
use Rattle.awk_streams.specs.declared.fault.StreamFault.TheVariants.{Memory, OutputNotOpened}
use Rattle.awk_streams.specs.declared.input.Input.{Input}
use Rattle.awk_streams.specs.declared.input.NextNamed.{NextNamed}
use Rattle.awk_streams.specs.declared.input.NextNamed.TheVariants as next
use Rattle.awk_streams.specs.declared.named.NamedStream.{NamedStream}
use Rattle.awk_streams.specs.declared.named.NamedStream.TheVariants as named
use Rattle.awk_streams.specs.declared.streams.Target.{Target}
use Rattle.awk_streams.specs.declared.streams.Target.TheVariants as target
use Rattle.awk_streams.specs.definitions.Inputs.{input_fault_of}
use Rattle.awk_streams.specs.definitions.Streams.{StreamsView, held_of, with_held, is_output_among, FailsAs, BringsIf}
use Rattle.awk_streams.specs.definitions.Lost.{Spares}
use Rattle.awk_streams.specs.support.Pulls.{Pulls}
use Rattle.awk_streams.specs.support.Brings.{Touches}
use Rattle.awk_streams.specs.support.Places.{is_named_input}

-- all outputs are brought, if a command is to be opened
pub record Prepares (is_command : Bool) (before : WorldState) (old : StreamsView) (result : Result (Unit {0}) StreamFault) (after : WorldState) (new : StreamsView) : Type 0 where
  pub touches : Touches (λ j. is_output_among j (held_of old)) before after
  pub printed : OnOk result (with_held (held_of new) (openings after.log) ≡ with_held (held_of old) (openings before.log))
  pub begins : Begins (in_order (with_held (held_of new) (openings after.log))) (in_order (with_held (held_of old) (openings before.log)))
  pub spares : Spares before (held_of old) after (held_of new)
  pub brings : OnOk result (BringsIf is_command before old after.log)
  pub marked : OnErr result (is_any after.failures ≡ true)
  pub failure : FailsAs result before after

-- there was no memory, and nothing was done
pub record FindsNoMemory (before : WorldState) (old : StreamsView) (after : WorldState) (new : StreamsView) : Type 0 where
  pub log : after.log ≡ before.log
  pub same : new ≡ old
  pub open_as : SameOpen before after
  pub failure : MayFailInside before after
  pub grows : Grows before after

-- the world refused to open a stream
pub record IsRefused (event : Event) (before : WorldState) (old : StreamsView) (after : WorldState) (new : StreamsView) : Type 0 where
  pub log : after.log ≡ event ∷ before.log
  pub same : new ≡ old
  pub open_as : SameOpen before after
  pub no_failure : after.failures ≡ before.failures

-- the world opened a stream under a number that was free
pub record IsAdded (id : ℕ) (event : Event) (stream : NamedStream) (before : WorldState) (old : StreamsView) (after : WorldState) (new : StreamsView) : Type 0 where
  pub log : after.log ≡ event ∷ before.log
  pub same : new ≡ record old { named = old.named ++ stream ∷ [] }
  pub fresh : IsFresh before id
  pub opens : Opens before after id
  pub no_failure : after.failures ≡ before.failures

abbrev pub new_output : OutputKind → List ℕ → ℕ → NamedStream
new_output kind name id = named.Output kind name record { id = id; held = [] }

abbrev pub new_input : InputKind → List ℕ → ℕ → NamedStream
new_input kind name id = named.Input kind name record { id = id; pending = record { bytes = []; ending = None } }

abbrev pub AsksOutput : OutputKind → List ℕ → Mode → WorldState → StreamsView → Result Target StreamFault → WorldState → StreamsView → Type 0
AsksOutput kind name mode before old (Ok t) after new = (id : ℕ) × (t ≡ target.Named (length old.named)) × IsAdded id (OpenedOutput kind name mode (Some id)) (new_output kind name id) before old after new
AsksOutput kind name mode before old (Err OutputNotOpened) after new = IsRefused (OpenedOutput kind name mode None) before old after new
AsksOutput kind name mode before old (Err Memory) after new = FindsNoMemory before old after new
AsksOutput kind name mode before old (Err fault) after new = ⊥

abbrev pub AsksForNamed : InputKind → List ℕ → WorldState → StreamsView → Result Bool StreamFault → WorldState → StreamsView → Type 0
AsksForNamed kind name before old (Ok true) after new = (id : ℕ) × IsAdded id (OpenedInput kind name (Some id)) (new_input kind name id) before old after new
AsksForNamed kind name before old (Ok false) after new = IsRefused (OpenedInput kind name None) before old after new
AsksForNamed kind name before old (Err Memory) after new = FindsNoMemory before old after new
AsksForNamed kind name before old (Err fault) after new = ⊥

-- one asking of an input for a record
pub record Takes (separator : List ℕ) (before : WorldState) (old : Input) (step : Result Step BufferFault) (after : WorldState) (new : Input) : Type 0 where
  pub id : new.id ≡ old.id
  pub pulls : Pulls old.id separator old.pending before.log step new.pending after.log
  pub no_failure : step ≢ Err BufferMemory → after.failures ≡ before.failures
  pub failure : step ≡ Err BufferMemory → MayFailInside before after
  pub grows : Grows before after

abbrev pub TakesNamed : List ℕ → WorldState → NamedStream → Result Step BufferFault → WorldState → NamedStream → Type 0
TakesNamed separator before (named.Input k n old) step after (named.Input k' n' new) = (k' ≡ k) × (n' ≡ n) × Takes separator before old step after new
TakesNamed separator before x step after y = ⊥

-- what the buffer answers, as a named input answers it
abbrev pub IsNamedAs : Result Step BufferFault → Result NextNamed StreamFault → Type 0
IsNamedAs (Ok (Record first)) result = result ≡ Ok (next.Record first)
IsNamedAs (Ok End) result = result ≡ Ok next.End
IsNamedAs (Ok Broken) result = result ≡ Ok next.NotReadable
IsNamedAs (Ok NeedMore) result = ⊥
IsNamedAs (Err fault) result = result ≡ Err (input_fault_of fault)

abbrev pub is_input_open : InputKind → List ℕ → List NamedStream → Bool
is_input_open kind name xs = is_some (position (is_named_input kind name) xs)
