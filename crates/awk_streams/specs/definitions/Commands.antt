-- What closings, runs of commands and the end of a run do (POSIX awk, Input/Output and General Functions: close, system).
use Rattle.std.specs.Prelude.{◌≡◌, ◌+◌, ◌≤◌, ℕ, ℤ, pos, negsuc, Bool, true, false, List, [], ◌∷◌, ◌++◌, map, length, Option, None, Some, filter, Result, Ok, Err, OnOk, OnErr, if◌then◌else◌, IfErr}
use Rattle.std.specs.Result.{result_and}
use Rattle.awk_world.specs.declared.world.InputKind.{InputKind}
use Rattle.awk_world.specs.declared.world.OutputKind.{OutputKind}
use Rattle.awk_world.specs.definitions.WorldState.{WorldState, is_any, first_of}
use Rattle.awk_world.specs.definitions.Log.{Event, Wrote, Flushed, Closed, Ran}
use Rattle.awk_world.specs.definitions.Oracle.{Oracle, Source, IsConsistent, SameCounts, one_if, how_many, opens_input, opens_output, closes_command, runs, standing}
use Rattle.awk_world.specs.definitions.Writes.{GoesOn}
use Rattle.awk_world.specs.definitions.Openings.{outputs_of, AreBrought, Begins}
use Rattle.awk_world.specs.definitions.Grows.{Grows}
use Rattle.awk_streams.specs.declared.fault.StreamFault.{StreamFault}
use Rattle.awk_streams.specs.declared.fault.StreamFault.TheVariants.{Memory, WriteFailed}
use Rattle.awk_streams.specs.declared.input.Input.{Input}
use Rattle.awk_streams.specs.declared.named.NamedStream.{NamedStream}
use Rattle.awk_streams.specs.definitions.Named.{Named, Stream, is_command, is_other, number_among, without_number}
use Rattle.awk_streams.specs.definitions.Outputs.{WritesAndFlushes, output_fault_of}
use Rattle.awk_streams.specs.definitions.Streams.{StreamsView, number_of, name_of, numbered, is_called, held_of, printed_openings, AreAs, FailsAs, AreBringing, Brings}
use Rattle.awk_streams.specs.definitions.Lost.{Spares, AreBroughtBut, AreSpent, AreSilentBehind}
use Rattle.awk_streams.specs.definitions.MainInput.{EndsMain}
use Rattle.awk_streams.specs.definitions.NamedOutputs.{LosesBytes}
use Rattle.awk_world.specs.declared.failure.Failure.{Failure}

-- a closing of a command is counted, and nothing else
pub record CountsClosing (is_a_command : Bool) (old new : List Event) : Type 0 where
  pub inputs : (k : InputKind) (n : List ℕ) → how_many (opens_input k n) new ≡ how_many (opens_input k n) old
  pub outputs : (k : OutputKind) (n : List ℕ) → how_many (opens_output k n) new ≡ how_many (opens_output k n) old
  pub closings : how_many closes_command new ≡ one_if is_a_command + how_many closes_command old
  pub runs : how_many runs new ≡ how_many runs old

-- a run of a command is counted, and nothing else
pub record CountsRun (old new : List Event) : Type 0 where
  pub inputs : (k : InputKind) (n : List ℕ) → how_many (opens_input k n) new ≡ how_many (opens_input k n) old
  pub outputs : (k : OutputKind) (n : List ℕ) → how_many (opens_output k n) new ≡ how_many (opens_output k n) old
  pub closings : how_many closes_command new ≡ how_many closes_command old
  pub runs : how_many runs new ≡ 1 + how_many runs old

-- a command's closing gives what the outside answers, a file's 0
abbrev pub closing_answer : (is_a_command : Bool) → Oracle → List Event → ℤ
closing_answer true a log = a.closing (how_many closes_command log)
closing_answer false a log = pos 0

-- a stream is closed, once all outputs were brought
pub record ClosesStream (x : Named) (before : WorldState) (old : StreamsView) (answer : ℤ) (after : WorldState) (new : StreamsView) : Type 0 where
  pub grows : Grows before after
  pub main : new.main ≡ old.main
  pub id : ℕ
  pub number : number_among (numbered old.named) x ≡ Some id
  pub told : ℤ
  pub adds : after.log ≡ Closed id told ∷ before.log
  pub numbers : numbered new.named ≡ without_number x (numbered old.named)
  pub printed : printed_openings after new ≡ printed_openings before old
  pub brought : AreBrought (printed_openings before old) before.log → AreBrought (printed_openings after new) after.log
  pub counts : CountsClosing (is_command x) before.log after.log
  pub answered : (a : Oracle) → IsConsistent a after.log → closing_answer (is_command x) a before.log ≡ answer
  pub streams : (a : Oracle) (main : Option Source) (open_streams : List Stream) → AreAs a before old main open_streams → AreAs a after new main (filter (is_other x) open_streams)
  pub no_failure : after.failures ≡ before.failures

-- these streams are closed in turn; the answer is that of the last one, or this one where there is none
abbrev pub ClosesEach : List Named → ℤ → WorldState → StreamsView → ℤ → WorldState → StreamsView → Type 0
ClosesEach [] answer before old result after new = (result ≡ answer) × (after ≡ before) × (new ≡ old)
ClosesEach (x ∷ xs) answer before old result after new =
    (told : ℤ) × (world : WorldState) × (streams : StreamsView) × ClosesStream x before old told world streams × ClosesEach xs told world streams result after new

-- what goes before a closing or a run: all outputs are brought, and nothing else changes
pub record BringsAll (before : WorldState) (old : StreamsView) (after : WorldState) (new : StreamsView) : Type 0 where
  pub grows : Grows before after
  pub brings : Brings before old after.log
  pub main : new.main ≡ old.main
  pub numbers : numbered new.named ≡ numbered old.named
  pub printed : printed_openings after new ≡ printed_openings before old
  pub spares : Spares before (held_of old) after (held_of new)
  pub counts : SameCounts before.log after.log
  pub same : (a : Oracle) (main : Option Source) (open_streams : List Stream) → AreAs a before old main open_streams → AreAs a after new main open_streams
  pub no_failure : after.failures ≡ before.failures

-- the names of the streams that have this text, in the order of their openings
abbrev pub names_called : List ℕ → List NamedStream → List Named
names_called text [] = []
names_called text (x ∷ xs) = if is_called text x then name_of x ∷ names_called text xs else names_called text xs

abbrev pub all_names : List NamedStream → List Named
all_names [] = []
all_names (x ∷ xs) = name_of x ∷ all_names xs

-- the streams of a text are closed, once all outputs were brought
pub record ClosesCalled (xs : List Named) (before : WorldState) (old : StreamsView) (answer : ℤ) (after : WorldState) (new : StreamsView) : Type 0 where
  pub world : WorldState
  pub streams : StreamsView
  pub brings : BringsAll before old world streams
  pub closes : ClosesEach xs (negsuc 0) world streams answer after new

-- where no stream has the text, nothing is done
abbrev pub ClosesNames : List Named → WorldState → StreamsView → ℤ → WorldState → StreamsView → Type 0
ClosesNames [] before old answer after new = (answer ≡ negsuc 0) × (after ≡ before) × (new ≡ old)
ClosesNames (x ∷ xs) before old answer after new = ClosesCalled (x ∷ xs) before old answer after new

abbrev pub TextClosed : List ℕ → WorldState → StreamsView → Result ℤ StreamFault → WorldState → StreamsView → Type 0
TextClosed text before old (Ok answer) after new = ClosesNames (names_called text old.named) before old answer after new
TextClosed text before old (Err Memory) after new = LosesBytes before old after new
TextClosed text before old (Err WriteFailed) after new = LosesBytes before old after new
TextClosed text before old (Err fault) after new = ⊥

-- each stream of a text is closed; -1 where there is none
pub record ClosesText (text : List ℕ) (before : WorldState) (old : StreamsView) (result : Result ℤ StreamFault) (after : WorldState) (new : StreamsView) : Type 0 where
  pub grows : Grows before after
  pub closed : TextClosed text before old result after new
  pub failure : FailsAs result before after

-- a command was run, once all outputs were brought
pub record RanCommand (command : List ℕ) (before : WorldState) (old : StreamsView) (answer : ℤ) (after : WorldState) (new : StreamsView) : Type 0 where
  pub log : List Event
  pub brings : Brings before old log
  pub adds : after.log ≡ Ran command answer ∷ log
  pub main : new.main ≡ old.main
  pub numbers : numbered new.named ≡ numbered old.named
  pub printed : printed_openings after new ≡ printed_openings before old
  pub counts : CountsRun before.log after.log
  pub answered : (a : Oracle) → IsConsistent a after.log → a.running (how_many runs before.log) ≡ answer
  pub same : (a : Oracle) (main : Option Source) (open_streams : List Stream) → AreAs a before old main open_streams → AreAs a after new main open_streams

abbrev pub CommandRan : List ℕ → WorldState → StreamsView → Result ℤ StreamFault → WorldState → StreamsView → Type 0
CommandRan command before old (Ok answer) after new = RanCommand command before old answer after new
CommandRan command before old (Err Memory) after new = LosesBytes before old after new
CommandRan command before old (Err WriteFailed) after new = LosesBytes before old after new
CommandRan command before old (Err fault) after new = ⊥

-- a run of a command
pub record RunsCommand (command : List ℕ) (before : WorldState) (old : StreamsView) (result : Result ℤ StreamFault) (after : WorldState) (new : StreamsView) : Type 0 where
  pub grows : Grows before after
  pub ran : CommandRan command before old result after new
  pub failure : FailsAs result before after

-- these events belong to the end of a run
abbrev pub AreOfTheEnd : List Event → Type 0
AreOfTheEnd [] = Unit {0}
AreOfTheEnd (Wrote id bytes ∷ es) = AreOfTheEnd es
AreOfTheEnd (Flushed id ∷ es) = AreOfTheEnd es
AreOfTheEnd (Closed id answer ∷ es) = AreOfTheEnd es
AreOfTheEnd (e ∷ es) = ⊥

-- all outputs are brought, the main input is closed, and then the named streams in the order of their openings
pub record EndsAll (before : WorldState) (old : StreamsView) (after : WorldState) (new : StreamsView) : Type 0 where
  pub world : WorldState
  pub streams : StreamsView
  pub brings : BringsAll before old world streams
  pub world' : WorldState
  pub streams' : StreamsView
  pub main : EndsMain world streams world' streams'
  pub answer : ℤ
  pub closes : ClosesEach (all_names old.named) (pos 0) world' streams' answer after new

-- the outputs are brought before anything is closed, and only that meets a failure
pub record BringsFirst (before after : WorldState) : Type 0 where
  pub log : List Event
  pub brings : GoesOn AreBringing before.log log
  pub closes : GoesOn AreOfTheEnd log after.log
  pub failure : (f : Failure) → before.failures ≡ [] → first_of after.failures ≡ Some f → f.at ≤ length log

-- these outputs are brought in turn, each of them whether or not one before it failed, and an output that fails gets no more
-- bytes; the first failure is the result
abbrev pub BringsEach : List (ℕ × List ℕ) → WorldState → Result (Unit {0}) StreamFault → WorldState → Type 0
BringsEach [] before result after = (result ≡ Ok tt) × (after ≡ before)
BringsEach (h ∷ hs) before result after =
    (first : Result (Unit {0}) StreamFault) × (rest : Result (Unit {0}) StreamFault) × (world : WorldState) × (result ≡ result_and first rest) × WritesAndFlushes h.0 h.1 before first world × BringsEach hs world rest after

-- what stands open under these numbers is closed in this order, whatever the closings answer, and nothing else is done
abbrev pub AreClosings : List ℕ → List Event → Type 0
AreClosings [] [] = Unit {0}
AreClosings (id ∷ ids) (Closed i answer ∷ es) = (i ≡ id) × AreClosings ids es
AreClosings ids es = ⊥

abbrev pub main_number : Option Input → List ℕ
main_number None = []
main_number (Some input) = input.id ∷ []

-- the number of the main input, if it is open, and those of the named streams in the order of their openings
abbrev pub numbers_open : StreamsView → List ℕ
numbers_open streams = main_number streams.main ++ map number_of streams.named

-- on every result standard output, standard error and the named outputs are brought in this order, and then all is closed
pub record BringsAndCloses (before : WorldState) (old : StreamsView) (result : Result (Unit {0}) StreamFault) (after : WorldState) : Type 0 where
  pub world : WorldState
  pub brings : BringsEach (held_of old) before result world
  pub closes : GoesOn (AreClosings (numbers_open old)) world.log after.log
  pub no_failure : after.failures ≡ world.failures

-- the end of a run
pub record Finishes (before : WorldState) (old : StreamsView) (result : Result (Unit {0}) StreamFault) (after : WorldState) (new : StreamsView) : Type 0 where
  pub grows : Grows before after
  pub only : GoesOn AreOfTheEnd before.log after.log
  pub first : BringsFirst before after
  pub each : BringsAndCloses before old result after
  -- nothing stands open behind it
  pub closed : (id : ℕ) → standing id after.log ≡ None
  pub ends : OnOk result (EndsAll before old after new)
  pub brought : OnOk result (AreBrought (printed_openings before old) after.log)
  pub begins : Begins (outputs_of after.log) (printed_openings before old)
  -- on every result
  pub others : AreBroughtBut after.failures (printed_openings before old) after.log
  pub silent : AreSpent before.failures (held_of old) → AreSilentBehind before.log before.failures → AreSilentBehind after.log after.failures
  pub no_failure : OnOk result (after.failures ≡ before.failures)
  pub failure : OnErr result (is_any after.failures ≡ true)
  -- the first failure is the one that the result tells
  pub blames : (f : Failure) → before.failures ≡ [] → first_of after.failures ≡ Some f → IfErr result (λ fault. fault ≡ output_fault_of f.what)
