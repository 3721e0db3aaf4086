-- What each call for the main input does (POSIX awk, INPUT FILES; Variables and Special Variables: RS).
use Rattle.std.specs.Prelude.{◌≡◌, ◌≢◌, ◌⊎◌, ◌+◌, ◌<◌, ℕ, ℤ, true, ◌&&◌, List, [], ◌∷◌, ◌++◌, length, drop, Option, Some, None, is_some, Result, Ok, Err, OnOk, bytes_eq}
use Rattle.std.specs.List.{All}
use Rattle.awk_record.specs.Cut.{longest, cut_of}
use Rattle.awk_world.specs.declared.world.InputKind.{InputKind}
use Rattle.awk_world.specs.declared.world.OutputKind.{OutputKind}
use Rattle.awk_world.specs.definitions.WorldState.{WorldState}
use Rattle.awk_world.specs.definitions.Log.{Event, OpenedInput, Closed, logged, Noted, Did, DidNot}
use Rattle.awk_world.specs.declared.world.WorldFault.TheVariants.{Memory as WorldMemory}
use Rattle.awk_world.specs.definitions.Oracle.{Oracle, Source, IsConsistent, SameCounts, one_if, how_many, opens_input, opens_output, closes_command, runs, same_input_kind}
use Rattle.awk_world.specs.definitions.Orderly.{IsReadable}
use Rattle.awk_world.specs.definitions.Grows.{Grows}
use Rattle.awk_streams.specs.declared.fault.StreamFault.{StreamFault}
use Rattle.awk_streams.specs.declared.fault.StreamFault.TheVariants.{Memory, InputNotReadable}
use Rattle.awk_streams.specs.declared.input.Input.{Input}
use Rattle.awk_streams.specs.definitions.Inputs.{ReadsAsNeeded, NextTold}
use Rattle.awk_streams.specs.definitions.Named.{Stream}
use Rattle.awk_streams.specs.definitions.Streams.{StreamsView, AreOpen, AreSound, IsSameMain, printed_openings, IsMainRest, StandFor, FailsInside}

-- one more opening of this input was answered, and no other opening, no closing of a command and no run
pub record CountsInput (kind : InputKind) (name : List ℕ) (old new : List Event) : Type 0 where
  pub inputs : (k : InputKind) (n : List ℕ) → how_many (opens_input k n) new ≡ one_if (same_input_kind k kind && bytes_eq n name) + how_many (opens_input k n) old
  pub outputs : (k : OutputKind) (n : List ℕ) → how_many (opens_output k n) new ≡ how_many (opens_output k n) old
  pub closings : how_many closes_command new ≡ how_many closes_command old
  pub runs : how_many runs new ≡ how_many runs old

-- what the outside answers to the next opening of this input
abbrev pub input_answer : Oracle → InputKind → List ℕ → List Event → Option Source
input_answer a kind name log = a.input kind name (how_many (opens_input kind name) log)

-- what there is to note of an opening of the main input; other faults than these it has none
abbrev pub main_opening : InputKind → List ℕ → Result (Unit {0}) StreamFault → Option Input → Noted
main_opening kind name (Ok u) (Some input) = Did (OpenedInput kind name (Some input.id))
main_opening kind name (Err InputNotReadable) main = Did (OpenedInput kind name None)
main_opening kind name result main = DidNot None WorldMemory

-- an opening of the main input
pub record OpensMain (kind : InputKind) (name : List ℕ) (before : WorldState) (old : StreamsView) (result : Result (Unit {0}) StreamFault) (after : WorldState) (new : StreamsView) : Type 0 where
  pub grows : Grows before after
  pub adds : after.log ≡ logged (main_opening kind name result new.main) before.log
  pub same : new ≡ record old { main = new.main }
  pub printed : printed_openings after new ≡ printed_openings before old
  pub counts : result ≢ Err Memory → CountsInput kind name before.log after.log
  pub granted : OnOk result ((a : Oracle) → IsConsistent a after.log → (s : Source) × (input_answer a kind name before.log ≡ Some s) × IsMainRest a after.log new.main (Some s))
  pub refused : result ≡ Err InputNotReadable → (a : Oracle) → IsConsistent a after.log → input_answer a kind name before.log ≡ None
  pub named : (a : Oracle) (open_streams : List Stream) → StandFor a before.log old.named open_streams → StandFor a after.log new.named open_streams
  pub failure : FailsInside result before after

-- the main input is read only while what is at hand doesn't decide its next record, and never behind its ending
abbrev pub ReadsMain : List ℕ → Option Input → List Event → List Event → Type 0
ReadsMain separator None log log' = log' ≡ log
ReadsMain separator (Some input) log log' = ReadsAsNeeded input.id separator input.pending log log' × ((log' ≡ log) ⊎ IsReadable input.id log)

-- an asking for the next record of the main input
pub record AsksMain (separator : List ℕ) (before : WorldState) (old : StreamsView) (result : Result (Option (List ℕ)) StreamFault) (after : WorldState) (new : StreamsView) : Type 0 where
  pub grows : Grows before after
  pub same : new ≡ record old { main = new.main }
  pub request : ReadsMain separator old.main before.log after.log
  pub printed : printed_openings after new ≡ printed_openings before old
  pub counts : SameCounts before.log after.log
  pub answered : result ≢ Err Memory → (a : Oracle) (whole : Source) → IsConsistent a after.log → IsMainRest a before.log old.main (Some whole) →
      (left : List ℕ) × NextTold (cut_of separator whole.bytes whole.ending) result whole.bytes left × IsMainRest a after.log new.main (Some record { bytes = left; ending = whole.ending })
  pub named : (a : Oracle) (open_streams : List Stream) → StandFor a before.log old.named open_streams → StandFor a after.log new.named open_streams
  pub failure : FailsInside result before after

-- Records at hand, of which many are taken at once.

-- a record by a separator of this one byte
pub record IsLineOf (separator : ℕ) (bytes : List ℕ) : Type 0 where
  pub plain : All (λ b. b ≢ separator) bytes
  pub short : length bytes < longest

-- these lines, each with its separator behind it
abbrev pub lines_of : (separator : ℕ) → List (List ℕ) → List ℕ
lines_of separator [] = []
lines_of separator (line ∷ lines) = line ++ separator ∷ lines_of separator lines

-- this record is asked for, and was at hand
pub record TakesMain (separator first : List ℕ) (world : WorldState) (old new : StreamsView) : Type 0 where
  pub there : is_some old.main ≡ true
  pub same : IsSameMain old.main new.main
  pub open_as : AreOpen world new
  pub sound : AreSound world new
  pub asks : AsksMain separator world old (Ok (Some first)) world new

-- so are these records, one after the other
abbrev pub TakesEach : (separator : List ℕ) → List (List ℕ) → WorldState → (old new : StreamsView) → Type 0
TakesEach separator [] world old new = new ≡ old
TakesEach separator (first ∷ more) world old new = (mid : StreamsView) × TakesMain separator first world old mid × TakesEach separator more world mid new

-- the bytes of the main input that are at hand
abbrev pub main_bytes : Option Input → List ℕ
main_bytes None = []
main_bytes (Some input) = input.pending.bytes

-- the main input without the first of them
abbrev pub skipped_main : ℕ → Option Input → Option Input
skipped_main count None = None
skipped_main count (Some input) = Some record { id = input.id; pending = record { bytes = drop count input.pending.bytes; ending = input.pending.ending } }

abbrev pub closed_main : Option Input → ℤ → List Event → List Event
closed_main None answer log = log
closed_main (Some input) answer log = Closed input.id answer ∷ log

-- the end of the main input: it is closed, if there was one. It is no command, so its closing gives no answer of the outside
pub record EndsMain (before : WorldState) (old : StreamsView) (after : WorldState) (new : StreamsView) : Type 0 where
  pub grows : Grows before after
  pub consistent : (a : Oracle) → IsConsistent a before.log → IsConsistent a after.log
  pub adds : (answer : ℤ) × (after.log ≡ closed_main old.main answer before.log)
  pub same : new ≡ record old { main = None }
  pub printed : printed_openings after new ≡ printed_openings before old
  pub counts : SameCounts before.log after.log
  pub named : (a : Oracle) (open_streams : List Stream) → StandFor a before.log old.named open_streams → StandFor a after.log new.named open_streams
  pub no_failure : after.failures ≡ before.failures
