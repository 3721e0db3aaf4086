-- The primitives of a run that reach the outside: the main input, named streams, commands
-- (POSIX awk, INPUT FILES; Output Statements; Input/Output and General Functions).
use Rattle.std.specs.Prelude.{ℕ, suc, ◌+◌, nat_le, ℤ, pos, negsuc, Bool, true, false, ◌&&◌, List, [], ◌∷◌, ◌++◌, length, filter, codes, Option, Some, None, Ok, Err, bytes_eq, if◌then◌else◌}
use Rattle.awk_value.specs.declared.value.Value.TheVariants as value
use Rattle.awk_record.specs.Cut.{Ending, Cut, Found, NoMore, BrokenOff, TooLong, cut_of}
use Rattle.awk_world.specs.declared.world.InputKind.{InputKind}
use Rattle.awk_world.specs.declared.world.OutputKind.{OutputKind}
use Rattle.awk_world.specs.declared.world.OutputKind.TheVariants as output
use Rattle.awk_world.specs.declared.world.Mode.{Mode}
use Rattle.awk_world.specs.declared.world.Mode.TheVariants as mode
use Rattle.awk_streams.specs.Oracle.{Source, same_input_kind, same_output_kind, one_if}
pub use Rattle.awk_streams.specs.Named.{same_named, named_of, is_command, rest_in, with_rest_of, opening_in, is_output, is_other, has_the_name}
use Rattle.awk_grammar.specs.declared.tree.Redirection.{Redirection}
use Rattle.awk_grammar.specs.declared.tree.Redirection.TheVariants as to
use Rattle.awk_kinds.specs.declared.special.Special.TheVariants.{Filename, Fnr, Rs}
use Rattle.awk_semantics.specs.declared.fault.Fault.{Fault}
use Rattle.awk_semantics.specs.declared.fault.Fault.TheVariants as fault
use Rattle.awk_semantics.specs.declared.halt.Halt.TheVariants as halt
use Rattle.awk_semantics.specs.definitions.State.{Named, Request, OpensMain, OpensInput, OpensOutput, RecordOfMain, RecordOf, Closes, Flushes, Runs, Requested, Stream, AnInput, AnOutput, State, Out, Run, ◌>>=◌, ret, gives}
use Rattle.awk_semantics.specs.definitions.Primitives.{text_in, put_special, fault_if}

-- Terms of a primitive's own clause: what it gives where it asks this of the outside.

abbrev pub asking : {A : Type 0} → Request → A → State → Out A
asking what a s = record { result = Ok a; state = s; effects = Requested what ∷ [] }

abbrev pub failing : {A : Type 0} → Request → Fault → State → Out A
failing what f s = record { result = Err (halt.Fault f); state = s; effects = Requested what ∷ [] }

-- the main input

-- one opening more of this kind and name
abbrev pub one_more : InputKind → List ℕ → (InputKind → List ℕ → ℕ) → InputKind → List ℕ → ℕ
one_more kind name openings k n = one_if (same_input_kind k kind && bytes_eq n name) + openings k n

abbrev pub counted : InputKind → List ℕ → State → State
counted kind name s = record s { openings = one_more kind name s.openings }

-- a main input is opened: the outside gives all of it, or refuses it
abbrev pub opened : InputKind → List ℕ → Option Source → Run (Unit {0})
opened kind name None s = failing (OpensMain kind name) fault.InputNotReadable (counted kind name s)
opened kind name (Some source) s = asking (OpensMain kind name) tt (record (counted kind name s) { main = Some source })

unfoldable pub open_main : InputKind → List ℕ → Run (Unit {0})
open_main kind name s = opened kind name (s.outside.input kind name (s.openings kind name)) s

-- a main input was found
unfoldable pub note_input : Run (Unit {0})
note_input s = gives tt (record s { input_seen = true })

-- whether a main input was found
unfoldable pub is_input_seen : Run Bool
is_input_seen s = gives s.input_seen s

-- an input begins: FILENAME is its name, and FNR 0
unfoldable pub begin_input : List ℕ → Run (Unit {0})
begin_input name = put_special Filename (value.Input name) >>= λ _. put_special Fnr (value.Number (pos 0)) >>= λ _. note_input

-- a main input's rest, cut
abbrev pub with_rest : State → List ℕ → Ending → State
with_rest s left ending = record s { main = Some (record { bytes = left; ending = ending }) }

abbrev pub taken : Cut → (separator : List ℕ) → Source → Run (Option (List ℕ))
taken (Found first left) separator source s = asking (RecordOfMain separator source.bytes) (Some first) (with_rest s left source.ending)
taken NoMore separator source s = asking (RecordOfMain separator source.bytes) None (with_rest s [] source.ending)
taken BrokenOff separator source s = failing (RecordOfMain separator source.bytes) fault.InputNotReadable (with_rest s [] source.ending)
taken TooLong separator source s = failing (RecordOfMain separator source.bytes) fault.RecordTooLong (with_rest s source.bytes source.ending)

-- the first record of a rest, cut by a record separator
abbrev pub taken_of : Option Source → List ℕ → Run (Option (List ℕ))
taken_of None separator = ret None
taken_of (Some source) separator = taken (cut_of separator source.bytes source.ending) separator source

-- the next record of the open main input, by the RS of this moment; none at its end, and where none is open
unfoldable pub take_record : Run (Option (List ℕ))
take_record s = taken_of s.main (text_in s Rs) s

unfoldable pub close_main : Run (Unit {0})
close_main s = gives tt (record s { main = None })

-- named streams

-- no more may be open
abbrev pub most_streams : ℕ
most_streams = 200

unfoldable pub check_streams : Run (Unit {0})
check_streams s = fault_if (nat_le most_streams (length s.streams)) fault.TooManyStreams s

-- named inputs

-- what asking a named input for a record comes to
pub data Answer : Type 0 where
  ARecord : (text : List ℕ) → Answer
  NoRecord : Answer
  -- it is refused, or broken
  NotReadable : Answer

-- a named input is opened, unless it is open: whether it stands open then. What is refused is asked for again the next time
abbrev pub input_granted : InputKind → List ℕ → Option Source → Run Bool
input_granted kind name None s = asking (OpensInput kind name) false (counted kind name s)
input_granted kind name (Some source) s = asking (OpensInput kind name) true (record (counted kind name s) { streams = s.streams ++ AnInput kind name source ∷ [] })

unfoldable pub ask_input : InputKind → List ℕ → Run Bool
ask_input kind name s = input_granted kind name (s.outside.input kind name (s.openings kind name)) s

abbrev pub open_input_unless : Option Source → InputKind → List ℕ → Run Bool
open_input_unless (Some rest) kind name = ret true
open_input_unless None kind name = check_streams >>= λ _. ask_input kind name

unfoldable pub open_input : InputKind → List ℕ → Run Bool
open_input kind name s = open_input_unless (rest_in s.streams kind name) kind name s

-- a named input's rest, cut
abbrev pub with_left : InputKind → List ℕ → List ℕ → Ending → State → State
with_left kind name left ending s = record s { streams = with_rest_of kind name (record { bytes = left; ending = ending }) s.streams }

abbrev pub named_taken : Cut → InputKind → List ℕ → (separator : List ℕ) → Source → Run Answer
named_taken (Found first left) kind name separator source s = asking (RecordOf kind name separator source.bytes) (ARecord first) (with_left kind name left source.ending s)
named_taken NoMore kind name separator source s = asking (RecordOf kind name separator source.bytes) NoRecord (with_left kind name [] source.ending s)
named_taken BrokenOff kind name separator source s = asking (RecordOf kind name separator source.bytes) NotReadable (with_left kind name [] source.ending s)
named_taken TooLong kind name separator source s = failing (RecordOf kind name separator source.bytes) fault.RecordTooLong s

abbrev pub named_taken_of : Option Source → InputKind → List ℕ → (separator : List ℕ) → Run Answer
named_taken_of None kind name separator = ret NotReadable
named_taken_of (Some source) kind name separator = named_taken (cut_of separator source.bytes source.ending) kind name separator source

unfoldable pub take_named : InputKind → List ℕ → Run Answer
take_named kind name s = named_taken_of (rest_in s.streams kind name) kind name (text_in s Rs) s

abbrev pub take_if : Bool → InputKind → List ℕ → Run Answer
take_if true kind name = take_named kind name
take_if false kind name = ret NotReadable

-- the next record of a named input, by the RS of this moment; it is opened if it isn't open
unfoldable pub next_of : InputKind → List ℕ → Run Answer
next_of kind name = open_input kind name >>= λ is_open. take_if is_open kind name

-- named outputs

abbrev pub one_output_more : OutputKind → List ℕ → (OutputKind → List ℕ → ℕ) → OutputKind → List ℕ → ℕ
one_output_more kind name openings k n = one_if (same_output_kind k kind && bytes_eq n name) + openings k n

abbrev pub output_counted : OutputKind → List ℕ → State → State
output_counted kind name s = record s { output_openings = one_output_more kind name s.output_openings }

-- an output is opened, as the next of the openings, or refused
abbrev pub output_granted : (is_granted : Bool) → OutputKind → List ℕ → Mode → Run ℕ
output_granted true kind name mode s = asking (OpensOutput kind name mode true) s.outputs (record (output_counted kind name s) { streams = s.streams ++ AnOutput kind name s.outputs ∷ []; outputs = suc s.outputs })
output_granted false kind name mode s = failing (OpensOutput kind name mode false) fault.OutputNotOpened (output_counted kind name s)

unfoldable pub ask_output : OutputKind → List ℕ → Mode → Run ℕ
ask_output kind name mode s = output_granted (s.outside.output kind name (s.output_openings kind name)) kind name mode s

abbrev pub open_output_unless : Option ℕ → OutputKind → List ℕ → Mode → Run ℕ
open_output_unless (Some opening) kind name mode = ret opening
open_output_unless None kind name mode = check_streams >>= λ _. ask_output kind name mode

-- the opening of a named output; it is opened if it isn't open
unfoldable pub open_output : OutputKind → List ℕ → Mode → Run ℕ
open_output kind name mode s = open_output_unless (opening_in s.streams kind name) kind name mode s

-- the file of a name; two names are standard output and standard error
abbrev pub open_file : List ℕ → Mode → Run ℕ
open_file name mode =
    if bytes_eq name (codes "/dev/stdout") then ret 0
    else (if bytes_eq name (codes "/dev/stderr") then ret 1
    else open_output output.File name mode)

-- the opening that a redirection prints to
abbrev pub open_target : Redirection → List ℕ → Run ℕ
open_target to.Truncate name = open_file name mode.Truncate
open_target to.Append name = open_file name mode.Append
open_target to.Pipe name = open_output output.Command name mode.Truncate

-- closings and runs

abbrev pub without_stream : Named → State → State
without_stream x s = record s { streams = filter (is_other x) s.streams }

-- a stream is closed: a file's closing gives 0, and that of a command what the outside answers
abbrev pub closed_by : (is_a_command : Bool) → Named → Run ℤ
closed_by true x s = asking (Closes x) (s.outside.closing s.closings) (record (without_stream x s) { closings = suc s.closings })
closed_by false x s = asking (Closes x) (pos 0) (without_stream x s)

unfoldable pub close_stream : Named → Run ℤ
close_stream x s = closed_by (is_command x) x s

-- the streams of a name, in the order of their openings
unfoldable pub streams_named : List ℕ → Run (List Stream)
streams_named name s = gives (filter (has_the_name name) s.streams) s

-- these are closed in turn; the answer is that of the last one, or this one where there is none
abbrev pub close_each : (answer : ℤ) → List Stream → Run ℤ
close_each answer [] = ret answer
close_each answer (x ∷ xs) = close_stream (named_of x) >>= λ n. close_each n xs

-- each stream of a name is closed; -1 where none is open
unfoldable pub close_named : List ℕ → Run ℤ
close_named name = streams_named name >>= λ xs. close_each (negsuc 0) xs

-- flushes: what was printed is received then, and nothing changes that a program sees

unfoldable pub flush_all : Run (Unit {0})
flush_all s = asking (Flushes None) tt s

-- each output of a name is flushed; -1 where there is none
unfoldable pub flush_named : List ℕ → Run ℤ
flush_named name s = asking (Flushes (Some name)) (if is_output s.streams name then pos 0 else negsuc 0) s

-- a command is run to its end
unfoldable pub run_command : List ℕ → Run ℤ
run_command command s = asking (Runs command) (s.outside.running s.runs) (record s { runs = suc s.runs })
