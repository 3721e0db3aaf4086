-- When a run asks the outside for something: its log meets the requests of the meaning, one after the other
-- (POSIX awk, INPUT FILES; Variables and Special Variables: RS; Output Statements; Input/Output and General Functions).
use Rattle.std.specs.Prelude.{◌≡◌, ◌⊎◌, ℕ, ℤ, Bool, true, false, ◌&&◌, ◌||◌, ◌==◌, List, [], ◌∷◌, ◌++◌, slice_get, Option, Some, None, is_some, bytes_eq}
use Rattle.awk_record.specs.Cut.{Ending}
use Rattle.awk_world.specs.declared.world.InputKind.{InputKind}
use Rattle.awk_world.specs.declared.world.InputKind.TheVariants as input
use Rattle.awk_world.specs.declared.world.OutputKind.{OutputKind}
use Rattle.awk_world.specs.declared.world.OutputKind.TheVariants as output
use Rattle.awk_streams.specs.Log.{Event, OpenedInput, OpenedOutput, Wrote, Flushed, Closed, Ran}
use Rattle.awk_streams.specs.Oracle.{Oracle, Source}
use Rattle.awk_streams.specs.Orderly.{IsReadable}
use Rattle.awk_streams.specs.Writes.{with_events, GoesOn}
use Rattle.awk_streams.specs.Openings.{Opening, AreBrought, openings, outputs_of, is_flushed}
use Rattle.awk_streams.specs.Streams.{place_of}
use Rattle.awk_streams.specs.Flushes.{is_standard_number}
use Rattle.awk_streams.specs.Inputs.{NeededReads, Rest}
pub use Rattle.awk_streams.specs.Named.{number_among, without_number}
use Rattle.awk_semantics.specs.definitions.State.{Named, Input, Output, Request, OpensMain, OpensInput, OpensOutput, RecordOfMain, RecordOf, Closes, Flushes, Runs, Ends}
use Rattle.awk_semantics.specs.definitions.Meaning.{Asked, Meaning}

-- how far a log goes, which of its inputs is the main one, and under which numbers the named streams stand open
pub record Stage : Type 0 where
  pub log : List Event
  pub main : Option ℕ
  pub streams : List (Named × ℕ)

-- a stream that was opened, if it was granted
abbrev pub with_number : Named → Option ℕ → List (Named × ℕ) → List (Named × ℕ)
with_number x None ys = ys
with_number x (Some id) ys = ys ++ (x, id) ∷ []

-- these events, the oldest first, meet no request: bytes are brought to outputs, and the main input is closed
abbrev pub AreBetween : Option ℕ → List Event → Option ℕ → Type 0
AreBetween main [] main' = main' ≡ main
AreBetween main (Wrote id bytes ∷ es) main' = AreBetween main es main'
AreBetween main (Flushed id ∷ es) main' = AreBetween main es main'
AreBetween (Some i) (Closed id answer ∷ es) main' = (id ≡ i) × AreBetween None es main'
AreBetween main (e ∷ es) main' = ⊥

-- the log goes on, and meets no request
pub record GoesBetween (old new : Stage) : Type 0 where
  pub events : List Event
  pub log : new.log ≡ with_events events old.log
  pub between : AreBetween old.main events new.main
  pub streams : new.streams ≡ old.streams

-- a record is asked of the input under this number, of which `left` is not yet taken: it is read only while the bytes at hand
-- don't decide the record, and not at all where its ending was met before
pub record ReadsAsRequested (oracle : Oracle) (separator left : List ℕ) (id : ℕ) (log log' : List Event) : Type 0 where
  pub source : Source
  pub at_hand : List ℕ
  pub rest : Rest oracle id log source left at_hand None
  pub reached : List ℕ
  pub ending : Option Ending
  pub needed : GoesOn (NeededReads id separator at_hand reached ending) log log'
  pub readable : (log' ≡ log) ⊎ IsReadable id log

abbrev pub ReadsFrom : Oracle → (separator left : List ℕ) → Option ℕ → List Event → List Event → Type 0
ReadsFrom oracle separator left None log log' = ⊥
ReadsFrom oracle separator left (Some id) log log' = ReadsAsRequested oracle separator left id log log'

-- every output has received what was printed by then, to the last flush; so it is before a command is opened
abbrev pub InputBrought : InputKind → List Opening → List Event → Type 0
InputBrought input.Command outputs log = AreBrought outputs log
InputBrought kind outputs log = Unit {0}

abbrev pub OutputBrought : OutputKind → List Opening → List Event → Type 0
OutputBrought output.Command outputs log = AreBrought outputs log
OutputBrought kind outputs log = Unit {0}

-- an opening was granted, under a number, or refused
abbrev pub IsGranted : Option ℕ → Bool → Type 0
IsGranted id is_granted = is_some id ≡ is_granted

-- a named stream is closed
abbrev pub ClosesAs : Named → Option ℕ → (old new : Stage) → Type 0
ClosesAs x None old new = ⊥
ClosesAs x (Some id) old new = (answer : ℤ) × (new ≡ record old { log = Closed id answer ∷ old.log; streams = without_number x old.streams })

-- The outputs of a name: two names are those of standard output and standard error, which stand open as 0 and 1.

abbrev pub is_output_of : (name : List ℕ) → Named → Bool
is_output_of name (Input kind n) = false
is_output_of name (Output kind n) = bytes_eq n name

-- whether one of these streams is such an output, and stands open under this number
abbrev pub is_number_in : (name : List ℕ) → List (Named × ℕ) → (id : ℕ) → Bool
is_number_in name [] id = false
is_number_in name (x ∷ xs) id = (is_output_of name x.0 && x.1 == id) || is_number_in name xs id

-- whether such an output stands open under this number
abbrev pub stands_under : (name : List ℕ) → Stage → (id : ℕ) → Bool
stands_under name stage id = is_standard_number name id || is_number_in name stage.streams id

-- each of them has received what was printed to it by then, to the last flush
pub record AreBroughtOf (name : List ℕ) (outputs : List Opening) (stage : Stage) : Type 0 where
  pub received : (id opening : ℕ) → stands_under name stage id ≡ true → place_of id (openings stage.log) ≡ Some opening → slice_get (outputs_of stage.log) opening ≡ slice_get outputs opening
  pub flushed : (id : ℕ) → stands_under name stage id ≡ true → is_flushed id stage.log ≡ true

-- the log goes on by what meets the request, where this was printed before
abbrev pub Meets : Oracle → Request → List Opening → (old new : Stage) → Type 0
Meets oracle (OpensMain kind name) outputs old new = (old.main ≡ None) × ((id : Option ℕ) × (new ≡ record old { log = OpenedInput kind name id ∷ old.log; main = id }))
Meets oracle (OpensInput kind name) outputs old new = InputBrought kind outputs old.log × ((id : Option ℕ) × (new ≡ record old { log = OpenedInput kind name id ∷ old.log; streams = with_number (Input kind name) id old.streams }))
Meets oracle (OpensOutput kind name mode is_granted) outputs old new = OutputBrought kind outputs old.log × ((id : Option ℕ) × IsGranted id is_granted × (new ≡ record old { log = OpenedOutput kind name mode id ∷ old.log; streams = with_number (Output kind name) id old.streams }))
Meets oracle (RecordOfMain separator left) outputs old new = ReadsFrom oracle separator left old.main old.log new.log × (new ≡ record old { log = new.log })
Meets oracle (RecordOf kind name separator left) outputs old new = ReadsFrom oracle separator left (number_among old.streams (Input kind name)) old.log new.log × (new ≡ record old { log = new.log })
Meets oracle (Closes x) outputs old new = AreBrought outputs old.log × ClosesAs x (number_among old.streams x) old new
Meets oracle (Flushes None) outputs old new = AreBrought outputs old.log × (new ≡ old)
Meets oracle (Flushes (Some name)) outputs old new = AreBroughtOf name outputs old × (new ≡ old)
Meets oracle (Runs command) outputs old new = AreBrought outputs old.log × ((answer : ℤ) × (new ≡ record old { log = Ran command answer ∷ old.log }))
Meets oracle Ends outputs old new = AreBrought outputs old.log × (new ≡ old)

-- from the one stage to the other the log meets the requests in their order, and does nothing else but between them
abbrev pub MeetsAll : Oracle → List Asked → (old new : Stage) → Type 0
MeetsAll oracle [] old new = GoesBetween old new
MeetsAll oracle (asked ∷ more) old new = (before behind : Stage) × GoesBetween old before × Meets oracle asked.what asked.outputs before behind × MeetsAll oracle more behind new

-- before a run nothing is logged
abbrev pub first_stage : Stage
first_stage = record { log = []; main = None; streams = [] }

-- a whole log meets all requests, and at the end each opening of an output has received what was printed to it, to the last flush
pub record IsInTurn (oracle : Oracle) (meaning : Meaning) (log : List Event) : Type 0 where
  pub last : Stage
  pub is : last.log ≡ log
  pub meets : MeetsAll oracle meaning.requests first_stage last
  pub brought : AreBrought meaning.outputs log
