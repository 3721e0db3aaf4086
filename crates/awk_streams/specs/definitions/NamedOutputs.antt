-- What opening a named output and printing do (POSIX awk, Output Statements; STDOUT; STDERR; OUTPUT FILES).
use Rattle.std.specs.Prelude.{◌≡◌, ◌⊎◌, ◌≤◌, ◌<◌, ◌+◌, ℕ, ◌&&◌, true, false, List, [], ◌∷◌, ◌++◌, length, Option, Some, None, Result, Ok, Err, OnOk, OnErr, bytes_eq}
use Rattle.awk_world.specs.declared.world.InputKind.{InputKind}
use Rattle.awk_world.specs.declared.world.OutputKind.{OutputKind}
use Rattle.awk_world.specs.declared.world.Mode.{Mode}
use Rattle.awk_world.specs.definitions.WorldState.{WorldState, is_any}
use Rattle.awk_world.specs.definitions.Log.{Event, OpenedOutput}
use Rattle.awk_world.specs.definitions.Oracle.{Oracle, Source, IsConsistent, SameCounts, one_if, how_many, opens_input, opens_output, closes_command, runs, same_output_kind}
use Rattle.awk_world.specs.definitions.Writes.{GoesOn, OnlyWritesTo}
use Rattle.awk_world.specs.definitions.Openings.{Named as NamedOutput, Begins}
use Rattle.awk_world.specs.definitions.Grows.{Grows}
use Rattle.awk_streams.specs.declared.fault.StreamFault.{StreamFault}
use Rattle.awk_streams.specs.declared.fault.StreamFault.TheVariants.{Memory, WriteFailed, OutputNotOpened, TooManyStreams}
use Rattle.awk_streams.specs.declared.streams.Target.{Target}
use Rattle.awk_streams.specs.definitions.Named.{Stream, AnOutput, Output, is_output_command, opening_in, with_bytes}
use Rattle.awk_streams.specs.definitions.Lost.{Spares}
use Rattle.awk_streams.specs.definitions.Streams.{StreamsView, most_streams, numbered, printed_openings, held_of, IsMainRest, StandFor, AreAs, number_at, opening_at, FailsAs, AreBringing, BringsIf}

-- one more opening of this output was answered, and no other opening, no closing of a command and no run
pub record CountsOutput (kind : OutputKind) (name : List ℕ) (old new : List Event) : Type 0 where
  pub inputs : (k : InputKind) (n : List ℕ) → how_many (opens_input k n) new ≡ how_many (opens_input k n) old
  pub outputs : (k : OutputKind) (n : List ℕ) → how_many (opens_output k n) new ≡ one_if (same_output_kind k kind && bytes_eq n name) + how_many (opens_output k n) old
  pub closings : how_many closes_command new ≡ how_many closes_command old
  pub runs : how_many runs new ≡ how_many runs old

-- the output stands open already: nothing is done
pub record FindsOutput (kind : OutputKind) (name : List ℕ) (before : WorldState) (old : StreamsView) (target : Target) (after : WorldState) (new : StreamsView) : Type 0 where
  pub world : after ≡ before
  pub same : new ≡ old
  pub opening : ℕ
  pub place : opening_at target old before.log ≡ Some opening
  pub found : (a : Oracle) (open_streams : List Stream) → StandFor a before.log old.named open_streams → opening_in open_streams kind name ≡ Some opening

-- the output doesn't stand open
abbrev pub LacksOutput : OutputKind → List ℕ → WorldState → StreamsView → Type 0
LacksOutput kind name before old = (a : Oracle) (open_streams : List Stream) → StandFor a before.log old.named open_streams → opening_in open_streams kind name ≡ None

-- one more would be too many: nothing is done
pub record IsFullOfOutputs (kind : OutputKind) (name : List ℕ) (before : WorldState) (old : StreamsView) (after : WorldState) (new : StreamsView) : Type 0 where
  pub lacks : LacksOutput kind name before old
  pub full : most_streams ≤ length old.named
  pub world : after ≡ before
  pub same : new ≡ old

-- the world is asked to open the output, where a command's outputs were brought all before; this number is granted, if it is
pub record AsksForOutput (kind : OutputKind) (name : List ℕ) (mode : Mode) (before : WorldState) (old : StreamsView) (id : Option ℕ) (after : WorldState) : Type 0 where
  pub lacks : LacksOutput kind name before old
  pub few : length old.named < most_streams
  pub log : List Event
  pub brings : BringsIf (is_output_command kind) before old log
  pub adds : after.log ≡ OpenedOutput kind name mode id ∷ log
  pub counts : CountsOutput kind name before.log after.log

-- it is opened, as the next of the openings
pub record GrantsOutput (kind : OutputKind) (name : List ℕ) (mode : Mode) (before : WorldState) (old : StreamsView) (target : Target) (after : WorldState) (new : StreamsView) : Type 0 where
  pub id : ℕ
  pub asks : AsksForOutput kind name mode before old (Some id) after
  pub granted : (a : Oracle) → IsConsistent a after.log → a.output kind name (how_many (opens_output kind name) before.log) ≡ true
  pub numbers : numbered new.named ≡ numbered old.named ++ (Output kind name, id) ∷ []
  pub printed : printed_openings after new ≡ printed_openings before old ++ record { output = NamedOutput kind name; bytes = [] } ∷ []
  pub place : opening_at target new after.log ≡ Some (length (printed_openings before old))
  pub named : (a : Oracle) (open_streams : List Stream) → StandFor a before.log old.named open_streams → StandFor a after.log new.named (open_streams ++ AnOutput kind name (length (printed_openings before old)) ∷ [])

-- it is refused
pub record RefusesOutput (kind : OutputKind) (name : List ℕ) (mode : Mode) (before : WorldState) (old : StreamsView) (after : WorldState) (new : StreamsView) : Type 0 where
  pub asks : AsksForOutput kind name mode before old None after
  pub refused : (a : Oracle) → IsConsistent a after.log → a.output kind name (how_many (opens_output kind name) before.log) ≡ false
  pub numbers : numbered new.named ≡ numbered old.named
  pub printed : printed_openings after new ≡ printed_openings before old
  pub named : (a : Oracle) (open_streams : List Stream) → StandFor a before.log old.named open_streams → StandFor a after.log new.named open_streams

-- what is held back could not be brought, or there was no memory: beginnings are received, and all of what no failure is of
pub record LosesBytes (before : WorldState) (old : StreamsView) (after : WorldState) (new : StreamsView) : Type 0 where
  pub only : GoesOn AreBringing before.log after.log
  pub begins : Begins (printed_openings after new) (printed_openings before old)
  pub spares : Spares before (held_of old) after (held_of new)

abbrev pub OutputOpened : OutputKind → List ℕ → Mode → WorldState → StreamsView → Result Target StreamFault → WorldState → StreamsView → Type 0
OutputOpened kind name mode before old (Ok target) after new = FindsOutput kind name before old target after new ⊎ GrantsOutput kind name mode before old target after new
OutputOpened kind name mode before old (Err OutputNotOpened) after new = RefusesOutput kind name mode before old after new
OutputOpened kind name mode before old (Err TooManyStreams) after new = IsFullOfOutputs kind name before old after new
OutputOpened kind name mode before old (Err Memory) after new = LosesBytes before old after new
OutputOpened kind name mode before old (Err WriteFailed) after new = LosesBytes before old after new
OutputOpened kind name mode before old (Err fault) after new = ⊥

-- a named output is opened, if it isn't open
pub record OpensOutput (kind : OutputKind) (name : List ℕ) (mode : Mode) (before : WorldState) (old : StreamsView) (result : Result Target StreamFault) (after : WorldState) (new : StreamsView) : Type 0 where
  pub grows : Grows before after
  pub main : new.main ≡ old.main
  pub main_rest : (a : Oracle) (rest : Option Source) → IsMainRest a before.log old.main rest → IsMainRest a after.log new.main rest
  pub opened : OutputOpened kind name mode before old result after new
  pub failure : FailsAs result before after

-- bytes are printed: they are received or held back behind what was; or a beginning of both is received, and there was a failure
pub record Prints (target : Target) (bytes : List ℕ) (before : WorldState) (old : StreamsView) (result : Result (Unit {0}) StreamFault) (after : WorldState) (new : StreamsView) : Type 0 where
  pub grows : Grows before after
  pub main : new.main ≡ old.main
  pub numbers : numbered new.named ≡ numbered old.named
  pub id : ℕ
  pub number : number_at target old ≡ Some id
  pub only : OnlyWritesTo id before.log after.log
  pub opening : ℕ
  pub place : opening_at target old before.log ≡ Some opening
  pub still : opening_at target new after.log ≡ Some opening
  pub printed : OnOk result (printed_openings after new ≡ with_bytes opening bytes (printed_openings before old))
  pub partly : OnErr result (Begins (printed_openings after new) (with_bytes opening bytes (printed_openings before old)))
  pub spares : OnErr result (Spares before (held_of old) after (held_of new))
  pub marked : OnErr result (is_any after.failures ≡ true)
  pub counts : SameCounts before.log after.log
  pub same : (a : Oracle) (main : Option Source) (open_streams : List Stream) → AreAs a before old main open_streams → AreAs a after new main open_streams
  pub failure : FailsAs result before after
