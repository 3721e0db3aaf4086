-- The state of a run, and what a part of a run does: a result, the state after it, and what it shows.
use Rattle.std.specs.Prelude.{ℕ, Bool, List, [], ◌++◌, Option, Result, Ok, Err}
use Rattle.awk_value.specs.declared.value.Value.{Value}
use Rattle.awk_value.specs.Arrays.{Array}
use Rattle.awk_record.specs.Record.{RecordPair}
use Rattle.awk_world.specs.declared.world.InputKind.{InputKind}
use Rattle.awk_world.specs.declared.world.OutputKind.{OutputKind}
use Rattle.awk_world.specs.declared.world.Mode.{Mode}
use Rattle.awk_streams.specs.Oracle.{Source, Oracle}
pub use Rattle.awk_streams.specs.Named.{Named, Input, Output, Stream, AnInput, AnOutput}
use Rattle.awk_semantics.specs.declared.halt.Halt.{Halt}
use Rattle.awk_semantics.specs.declared.local.Local.{Local}

-- what a run asks of the outside
pub data Request : Type 0 where
  -- an opening of the main input, of this kind and name
  OpensMain : (kind : InputKind) (name : List ℕ) → Request
  -- an opening of a named input
  OpensInput : (kind : InputKind) (name : List ℕ) → Request
  -- an opening of a named output, and whether it is granted
  OpensOutput : (kind : OutputKind) (name : List ℕ) (mode : Mode) (is_granted : Bool) → Request
  -- the next record of the main input, by this separator, where this is left of its bytes
  RecordOfMain : (separator left : List ℕ) → Request
  -- the next record of a named input
  RecordOf : (kind : InputKind) (name separator left : List ℕ) → Request
  Closes : (stream : Named) → Request
  -- flushes of the outputs of a name, or of all
  Flushes : (name : Option (List ℕ)) → Request
  Runs : (command : List ℕ) → Request
  -- the run is over: what follows are the closings of the streams that are left
  Ends : Request

-- what a run shows, in its order
pub data Effect : Type 0 where
  -- bytes are printed to an opening of an output; openings are counted from 0, in their order, and standard output and
  -- standard error are 0 and 1
  Printed : (opening : ℕ) (bytes : List ℕ) → Effect
  Requested : (what : Request) → Effect

-- a call that is active
pub record Frame : Type 0 where
  -- the parameters, by name
  pub locals : List (List ℕ × Local)
  -- the height of the function's body
  pub height : ℕ
  -- how many arrays there were before the call
  pub arrays_before : ℕ

pub record State : Type 0 where
  -- what the outside answers
  pub outside : Oracle
  -- how many openings of an input, and of an output, of a kind and name there were
  pub openings : InputKind → List ℕ → ℕ
  pub output_openings : OutputKind → List ℕ → ℕ
  -- how many openings of outputs were granted, with the two standard ones
  pub outputs : ℕ
  -- how many closings of commands there were, and how many runs
  pub closings : ℕ
  pub runs : ℕ
  -- the rest of the main input, if it is open
  pub main : Option Source
  -- the named streams that are open, in the order of their openings
  pub streams : List Stream
  -- the record at hand
  pub current : RecordPair
  -- the values of the names of the whole program; that of NF is counted in the record
  pub variables : List ℕ → Value
  -- the names of arrays of the whole program, of which each has its place's number, and the names of functions
  pub array_names : List (List ℕ)
  pub function_names : List (List ℕ)
  -- the arrays by number: those that have names, and then those that calls made for want of an argument
  pub arrays : List Array
  -- the active calls, the newest first
  pub frames : List Frame
  -- which element of ARGV is looked at next
  pub next : ℕ
  -- whether a main input was found: a file operand, or standard input for want of one
  pub input_seen : Bool
  -- which ranges are inside, by the number of their item: they began on a record, and didn't end since
  pub inside : ℕ → Bool
  -- the exit status so far, from 0 to 255
  pub status : ℕ
  -- the steps left
  pub steps : ℕ

pub record Out (A : Type 0) : Type 0 where
  pub result : Result A Halt
  pub state : State
  pub effects : List Effect

abbrev pub Run : Type 0 → Type 0
Run A = State → Out A

-- a result, and then what goes on from it
unfoldable pub go_on : {A B : Type 0} → Result A Halt → State → List Effect → (A → Run B) → Out B
go_on (Ok a) s effects f = record { result = (f a s).result; state = (f a s).state; effects = effects ++ (f a s).effects }
go_on (Err reason) s effects f = record { result = Err reason; state = s; effects = effects }

infixl 10 ◌>>=◌
unfoldable pub ◌>>=◌ : {A B : Type 0} → Run A → (A → Run B) → Run B
(m >>= f) s = go_on (m s).result (m s).state (m s).effects f

-- a result that is had without a change
unfoldable pub lift : {A : Type 0} → Result A Halt → Run A
lift r s = record { result = r; state = s; effects = [] }

abbrev pub ret : {A : Type 0} → A → Run A
ret a = lift (Ok a)

-- Terms of a primitive's own clause: what it gives, and the state and the effects with that.

abbrev pub gives : {A : Type 0} → A → State → Out A
gives a s = record { result = Ok a; state = s; effects = [] }

abbrev pub ends : {A : Type 0} → Halt → State → Out A
ends reason s = record { result = Err reason; state = s; effects = [] }
