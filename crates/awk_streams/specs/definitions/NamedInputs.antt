-- What asking a named input for a record does (POSIX awk, Input/Output and General Functions: getline).
use Rattle.std.specs.Prelude.{◌≡◌, ◌≢◌, ◌⊎◌, ◌≤◌, ◌<◌, ℕ, Bool, true, false, List, [], ◌∷◌, ◌++◌, length, Option, Some, None, Result, Ok, Err}
use Rattle.awk_record.specs.Cut.{Cut, Found, NoMore, BrokenOff, TooLong, cut_of}
use Rattle.awk_record.specs.Buffer.{Pending}
use Rattle.awk_world.specs.declared.world.InputKind.{InputKind}
use Rattle.awk_world.specs.definitions.WorldState.{WorldState}
use Rattle.awk_world.specs.definitions.Log.{Event, OpenedInput}
use Rattle.awk_world.specs.definitions.Oracle.{Oracle, Source, IsConsistent, SameCounts}
use Rattle.awk_world.specs.definitions.Orderly.{IsReadable}
use Rattle.awk_world.specs.definitions.Grows.{Grows}
use Rattle.awk_streams.specs.declared.fault.StreamFault.{StreamFault}
use Rattle.awk_streams.specs.declared.fault.StreamFault.TheVariants.{Memory, WriteFailed, TooManyStreams, RecordTooLong}
use Rattle.awk_streams.specs.declared.input.NextNamed.{NextNamed}
use Rattle.awk_streams.specs.declared.input.NextNamed.TheVariants.{Record, End, NotReadable}
use Rattle.awk_streams.specs.definitions.Inputs.{ReadsAsNeeded, Rest}
use Rattle.awk_streams.specs.definitions.Named.{Stream, AnInput, Input, is_input_command, rest_in, with_rest_of, number_among}
use Rattle.awk_streams.specs.definitions.Streams.{StreamsView, most_streams, numbered, printed_openings, IsMainRest, StandFor, AreAs, FailsAs, FailsInside, BringsIf}
use Rattle.awk_streams.specs.definitions.MainInput.{CountsInput, input_answer}
use Rattle.awk_streams.specs.definitions.NamedOutputs.{LosesBytes}

-- the input stands open already: nothing is done
pub record FindsInput (kind : InputKind) (name : List ℕ) (before : WorldState) (old : StreamsView) (after : WorldState) (new : StreamsView) : Type 0 where
  pub world : after ≡ before
  pub same : new ≡ old
  pub found : (a : Oracle) (open_streams : List Stream) → StandFor a before.log old.named open_streams → (rest : Source) × (rest_in open_streams kind name ≡ Some rest)

-- the input doesn't stand open
abbrev pub LacksInput : InputKind → List ℕ → WorldState → StreamsView → Type 0
LacksInput kind name before old = (a : Oracle) (open_streams : List Stream) → StandFor a before.log old.named open_streams → rest_in open_streams kind name ≡ None

-- one more would be too many: nothing is done
pub record IsFullOfInputs (kind : InputKind) (name : List ℕ) (before : WorldState) (old : StreamsView) (after : WorldState) (new : StreamsView) : Type 0 where
  pub lacks : LacksInput kind name before old
  pub full : most_streams ≤ length old.named
  pub world : after ≡ before
  pub same : new ≡ old

-- the world is asked to open the input, where all outputs were brought before a command's; this number is granted, if it is
pub record AsksForInput (kind : InputKind) (name : List ℕ) (before : WorldState) (old : StreamsView) (id : Option ℕ) (after : WorldState) (new : StreamsView) : Type 0 where
  pub lacks : LacksInput kind name before old
  pub few : length old.named < most_streams
  pub log : List Event
  pub brings : BringsIf (is_input_command kind) before old log
  pub adds : after.log ≡ OpenedInput kind name id ∷ log
  pub counts : CountsInput kind name before.log after.log
  pub printed : printed_openings after new ≡ printed_openings before old

-- it is opened
pub record GrantsInput (kind : InputKind) (name : List ℕ) (before : WorldState) (old : StreamsView) (after : WorldState) (new : StreamsView) : Type 0 where
  pub id : ℕ
  pub asks : AsksForInput kind name before old (Some id) after new
  pub numbers : numbered new.named ≡ numbered old.named ++ (Input kind name, id) ∷ []
  pub named : (a : Oracle) (open_streams : List Stream) → IsConsistent a after.log → StandFor a before.log old.named open_streams →
      (s : Source) × (input_answer a kind name before.log ≡ Some s) × StandFor a after.log new.named (open_streams ++ AnInput kind name s ∷ [])

-- it is refused
pub record RefusesInput (kind : InputKind) (name : List ℕ) (before : WorldState) (old : StreamsView) (after : WorldState) (new : StreamsView) : Type 0 where
  pub asks : AsksForInput kind name before old None after new
  pub refused : (a : Oracle) → IsConsistent a after.log → input_answer a kind name before.log ≡ None
  pub numbers : numbered new.named ≡ numbered old.named
  pub named : (a : Oracle) (open_streams : List Stream) → StandFor a before.log old.named open_streams → StandFor a after.log new.named open_streams

abbrev pub InputOpened : InputKind → List ℕ → WorldState → StreamsView → Result Bool StreamFault → WorldState → StreamsView → Type 0
InputOpened kind name before old (Ok true) after new = FindsInput kind name before old after new ⊎ GrantsInput kind name before old after new
InputOpened kind name before old (Ok false) after new = RefusesInput kind name before old after new
InputOpened kind name before old (Err TooManyStreams) after new = IsFullOfInputs kind name before old after new
InputOpened kind name before old (Err Memory) after new = LosesBytes before old after new
InputOpened kind name before old (Err WriteFailed) after new = LosesBytes before old after new
InputOpened kind name before old (Err fault) after new = ⊥

-- a named input is opened, if it isn't open: whether it stands open then
pub record OpensInput (kind : InputKind) (name : List ℕ) (before : WorldState) (old : StreamsView) (result : Result Bool StreamFault) (after : WorldState) (new : StreamsView) : Type 0 where
  pub grows : Grows before after
  pub main : new.main ≡ old.main
  pub main_rest : (a : Oracle) (rest : Option Source) → IsMainRest a before.log old.main rest → IsMainRest a after.log new.main rest
  pub opened : InputOpened kind name before old result after new
  pub failure : FailsAs result before after

-- what is answered where the rest of the input is cut so, and what is left of the whole rest
abbrev pub NamedTold : Cut → Result NextNamed StreamFault → List ℕ → List ℕ → Type 0
NamedTold (Found first rest) result whole left = (result ≡ Ok (Record first)) × (left ≡ rest)
NamedTold NoMore result whole left = (result ≡ Ok End) × (left ≡ [])
NamedTold BrokenOff result whole left = (result ≡ Ok NotReadable) × (left ≡ [])
NamedTold TooLong result whole left = (result ≡ Err RecordTooLong) × (left ≡ whole)

-- what is left of a named input for an oracle, of which this was read and isn't yet taken
pub record IsNamedRest (kind : InputKind) (name : List ℕ) (id : ℕ) (pending : Pending) (a : Oracle) (open_streams : List Stream) (log : List Event) : Type 0 where
  pub whole : Source
  pub is : rest_in open_streams kind name ≡ Some whole
  pub source : Source
  pub ending : source.ending ≡ whole.ending
  pub rest : Rest a id log source whole.bytes pending.bytes pending.ending

-- what an asking answers for an oracle: the first record of what is left of the input; what is left then
pub record IsNamedAnswer (kind : InputKind) (name separator : List ℕ) (id : ℕ) (pending : Pending) (a : Oracle) (main : Option Source) (open_streams : List Stream) (before : WorldState) (result : Result NextNamed StreamFault) (after : WorldState) (new : StreamsView) : Type 0 where
  pub whole : Source
  pub is : rest_in open_streams kind name ≡ Some whole
  pub source : Source
  pub ending : source.ending ≡ whole.ending
  pub rest : Rest a id before.log source whole.bytes pending.bytes pending.ending
  pub left : List ℕ
  pub told : NamedTold (cut_of separator whole.bytes whole.ending) result whole.bytes left
  pub leaves : AreAs a after new main (with_rest_of kind name record { bytes = left; ending = whole.ending } open_streams)

-- an asking for the next record of a named input that stands open: it is read only while what is at hand doesn't decide the
-- record, and never behind its ending
pub record AsksNamed (kind : InputKind) (name separator : List ℕ) (before : WorldState) (old : StreamsView) (result : Result NextNamed StreamFault) (after : WorldState) (new : StreamsView) : Type 0 where
  pub grows : Grows before after
  pub main : new.main ≡ old.main
  pub numbers : numbered new.named ≡ numbered old.named
  pub id : ℕ
  pub number : number_among (numbered old.named) (Input kind name) ≡ Some id
  pub pending : Pending
  pub asked : (a : Oracle) (open_streams : List Stream) → StandFor a before.log old.named open_streams → IsNamedRest kind name id pending a open_streams before.log
  pub reads : ReadsAsNeeded id separator pending before.log after.log
  pub readable : (after.log ≡ before.log) ⊎ IsReadable id before.log
  pub printed : printed_openings after new ≡ printed_openings before old
  pub counts : SameCounts before.log after.log
  pub answered : result ≢ Err Memory → (a : Oracle) (main : Option Source) (open_streams : List Stream) → IsConsistent a after.log → AreAs a before old main open_streams →
      IsNamedAnswer kind name separator id pending a main open_streams before result after new
  pub failure : FailsInside result before after

-- the next record, where the input stands open
abbrev pub AsksIfOpen : Result Bool StreamFault → InputKind → (name separator : List ℕ) → WorldState → StreamsView → Result NextNamed StreamFault → WorldState → StreamsView → Type 0
AsksIfOpen (Ok true) kind name separator before old result after new = AsksNamed kind name separator before old result after new
AsksIfOpen (Ok false) kind name separator before old result after new = (result ≡ Ok NotReadable) × (after ≡ before) × (new ≡ old)
AsksIfOpen (Err fault) kind name separator before old result after new = (result ≡ Err fault) × (after ≡ before) × (new ≡ old)

-- the next record of a named input; it is opened first, if it isn't open
pub record AsksInput (kind : InputKind) (name separator : List ℕ) (before : WorldState) (old : StreamsView) (result : Result NextNamed StreamFault) (after : WorldState) (new : StreamsView) : Type 0 where
  pub is_open : Result Bool StreamFault
  pub world : WorldState
  pub streams : StreamsView
  pub opens : OpensInput kind name before old is_open world streams
  pub asks : AsksIfOpen is_open kind name separator world streams result after new
