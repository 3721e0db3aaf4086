-- What each call of a world in memory answers by its script, and what the script is afterwards.
use Rattle.std.specs.Prelude.{◌≡◌, ◌⊎◌, ◌+◌, ◌-◌, ℕ, ℤ, pos, Bool, true, false, ◌&&◌, ◌==◌, nat_lt, ◌||◌, if◌then◌else◌, min, List, [], ◌∷◌, ◌++◌, length, drop, slice_get, slice_set, Option, Some, None, Result, Ok, Err, bytes_eq}
use Rattle.std.specs.List.{fold, position, remove}
use Rattle.awk_world.specs.declared.answer.Answer.{Answer}
use Rattle.awk_world.specs.declared.answer.Answer.TheVariants.{Input, Output, Closing, Run}
use Rattle.awk_world.specs.declared.answer.InputAnswer.{InputAnswer}
use Rattle.awk_world.specs.declared.answer.Ending.{Ending}
use Rattle.awk_world.specs.declared.answer.Ending.TheVariants.{End, Break, Again}
use Rattle.awk_world.specs.declared.planned_faults.PlannedFaults.{PlannedFaults}
use Rattle.awk_world.specs.declared.script_stream.Portion.{Portion}
use Rattle.awk_world.specs.declared.script_stream.Portion.TheVariants.{Bytes, End as PortionEnd, Break as PortionBreak}
use Rattle.awk_world.specs.declared.world.InputKind.{InputKind}
use Rattle.awk_world.specs.declared.world.InputKind.TheVariants.{Standard, Command}
use Rattle.awk_world.specs.declared.world.OutputKind.{OutputKind}
use Rattle.awk_world.specs.declared.world.OutputKind.TheVariants.{Command as ToCommand}
use Rattle.awk_world.specs.declared.world.WorldFault.{WorldFault}
use Rattle.awk_world.specs.declared.world.WorldFault.TheVariants.{Memory, Failed}
use Rattle.awk_world.specs.definitions.Oracle.{same_input_kind, same_output_kind}
use Rattle.awk_world.specs.definitions.Script.{GrantedStream, Script}

-- what the script says is answered, unless memory is refused
abbrev pub IsAnswer : {T : Type 0} → Result T WorldFault → Result T WorldFault → Type 0
IsAnswer scripted result = (result ≡ scripted) ⊎ (result ≡ Err Memory)

-- Planned failures: of each kind the plan has the number of the calls that come before the one that fails.

abbrev pub no_faults : PlannedFaults
no_faults = record { calls_before_refusal = None; writes_before_failure = None; flushes_before_failure = None; longest_write = None }

-- the k-th call fails, k from 1
abbrev pub refusing_memory : ℕ → PlannedFaults → PlannedFaults
refusing_memory k plan = record plan { calls_before_refusal = Some (k - 1) }

abbrev pub failing_write : ℕ → PlannedFaults → PlannedFaults
failing_write k plan = record plan { writes_before_failure = Some (k - 1) }

abbrev pub failing_flush : ℕ → PlannedFaults → PlannedFaults
failing_flush k plan = record plan { flushes_before_failure = Some (k - 1) }

abbrev pub writing_at_most : ℕ → PlannedFaults → PlannedFaults
writing_at_most n plan = record plan { longest_write = Some n }

abbrev pub with_plan : PlannedFaults → Script → Script
with_plan plan script = record script { faults = plan }

-- whether the next call is the one that fails
abbrev pub is_due : Option ℕ → Bool
is_due None = false
is_due (Some before) = before == 0

abbrev pub one_less : Option ℕ → Option ℕ
one_less None = None
one_less (Some before) = if before == 0 then None else Some (before - 1)

-- the plan after one more call that can answer `Memory`, be it a write or a flush or another
abbrev pub after_call : PlannedFaults → PlannedFaults
after_call plan = record plan { calls_before_refusal = one_less plan.calls_before_refusal }

abbrev pub after_write : PlannedFaults → PlannedFaults
after_write plan = record plan { calls_before_refusal = one_less plan.calls_before_refusal; writes_before_failure = one_less plan.writes_before_failure }

abbrev pub after_flush : PlannedFaults → PlannedFaults
after_flush plan = record plan { calls_before_refusal = one_less plan.calls_before_refusal; flushes_before_failure = one_less plan.flushes_before_failure }

abbrev pub unless_refused : {T : Type 0} → PlannedFaults → Result T WorldFault → Result T WorldFault
unless_refused plan answer = if is_due plan.calls_before_refusal then Err Memory else answer

abbrev pub at_most : Option ℕ → ℕ → ℕ
at_most None len = len
at_most (Some most) len = min len most

-- a write of so many bytes
abbrev pub write_answer : ℕ → PlannedFaults → Result ℕ WorldFault
write_answer len plan = unless_refused plan (if is_due plan.writes_before_failure then Err Failed else Ok (at_most plan.longest_write len))

abbrev pub flush_answer : PlannedFaults → Result (Unit {0}) WorldFault
flush_answer plan = unless_refused plan (if is_due plan.flushes_before_failure then Err Failed else Ok tt)

-- Which answer each call takes: the first that is listed for it, so that those for one sort of call are given in turn.

abbrev pub is_for_input : InputKind → List ℕ → Answer → Bool
is_for_input kind name (Input answer) = same_input_kind kind answer.kind && bytes_eq name answer.name.items
is_for_input kind name answer = false

abbrev pub is_for_output : OutputKind → List ℕ → Answer → Bool
is_for_output kind name (Output answer) = same_output_kind kind answer.kind && bytes_eq name answer.name.items
is_for_output kind name answer = false

abbrev pub is_for_closing : Answer → Bool
is_for_closing (Closing number) = true
is_for_closing answer = false

abbrev pub is_for_run : Answer → Bool
is_for_run (Run number) = true
is_for_run answer = false

abbrev pub input_place : InputKind → List ℕ → List Answer → Option ℕ
input_place kind name answers = position (is_for_input kind name) answers

abbrev pub output_place : OutputKind → List ℕ → List Answer → Option ℕ
output_place kind name answers = position (is_for_output kind name) answers

abbrev pub closing_place : List Answer → Option ℕ
closing_place answers = position is_for_closing answers

abbrev pub run_place : List Answer → Option ℕ
run_place answers = position is_for_run answers

abbrev pub answer_at : Option ℕ → List Answer → Option Answer
answer_at None answers = None
answer_at (Some place) answers = slice_get answers place

abbrev pub without : Option ℕ → List Answer → List Answer
without None answers = answers
without (Some place) answers = remove answers place

-- Openings.

abbrev pub empty_stream : Bool → Ending → GrantedStream
empty_stream is_command ending = record { is_command = is_command; bytes = []; piece_ends = []; ending = ending; at = 0 }

abbrev pub given_by : Bool → InputAnswer → Option GrantedStream
given_by is_command answer = if answer.refused then None else Some record { is_command = is_command; bytes = answer.bytes.items; piece_ends = answer.piece_ends.items; ending = answer.ending; at = 0 }

-- where no answer is listed, standard input is empty, and any other input is refused
abbrev pub input_by : InputKind → Option Answer → Option GrantedStream
input_by Standard None = Some (empty_stream false End)
input_by kind None = None
input_by kind (Some (Input answer)) = given_by (same_input_kind kind Command) answer
input_by kind (Some answer) = None

abbrev pub granted_input : InputKind → List ℕ → List Answer → Option GrantedStream
granted_input kind name answers = input_by kind (answer_at (input_place kind name answers) answers)

-- where no answer is listed, an output is refused
abbrev pub output_by : OutputKind → Option Answer → Option GrantedStream
output_by kind (Some (Output answer)) = if answer.refused then None else Some (empty_stream (same_output_kind kind ToCommand) Break)
output_by kind answer = None

abbrev pub granted_output : OutputKind → List ℕ → List Answer → Option GrantedStream
granted_output kind name answers = output_by kind (answer_at (output_place kind name answers) answers)

-- numbers are granted in turn, from 2 on
abbrev pub number_for : Option GrantedStream → List GrantedStream → Result ℕ WorldFault
number_for None streams = Err Failed
number_for (Some stream) streams = Ok (length streams + 2)

abbrev pub input_answer : InputKind → List ℕ → Script → Result ℕ WorldFault
input_answer kind name script = unless_refused script.faults (number_for (granted_input kind name script.answers) script.streams)

abbrev pub output_answer : OutputKind → List ℕ → Script → Result ℕ WorldFault
output_answer kind name script = unless_refused script.faults (number_for (granted_output kind name script.answers) script.streams)

abbrev pub with_stream : Option GrantedStream → List GrantedStream → List GrantedStream
with_stream None streams = streams
with_stream (Some stream) streams = streams ++ stream ∷ []

-- after an opening that takes the answer of a place and grants a stream or none
abbrev pub after_opening : Option ℕ → Option GrantedStream → Result ℕ WorldFault → Script → Script
after_opening place granted (Err Memory) script = with_plan (after_call script.faults) script
after_opening place granted result script = record script {
  answers = without place script.answers;
  streams = with_stream granted script.streams;
  faults = after_call script.faults;
}

abbrev pub after_input : InputKind → List ℕ → Result ℕ WorldFault → Script → Script
after_input kind name result script = after_opening (input_place kind name script.answers) (granted_input kind name script.answers) result script

abbrev pub after_output : OutputKind → List ℕ → Result ℕ WorldFault → Script → Script
after_output kind name result script = after_opening (output_place kind name script.answers) (granted_output kind name script.answers) result script

-- Readings: none goes on behind the end of a piece.

abbrev pub buffering : ℕ → Script → Script
buffering size script = record script { buffer_size = size }

abbrev pub nearer : ℕ → ℕ → ℕ → ℕ
nearer at end other = if nat_lt at other && nat_lt other end then other else end

-- how many bytes a reading into so much room gives: up to the first end behind what was read, or to the end of all bytes
abbrev pub read_count : GrantedStream → ℕ → ℕ
read_count stream room = min (fold (nearer stream.at) (length stream.bytes) stream.piece_ends - stream.at) room

abbrev pub portion_behind : Ending → Portion
portion_behind Break = PortionBreak
portion_behind ending = PortionEnd

-- a number that was not granted breaks when it is read
abbrev pub portion_of : Option GrantedStream → ℕ → Portion
portion_of None room = PortionBreak
portion_of (Some stream) room = if nat_lt 0 (read_count stream room) || room == 0 then Bytes (read_count stream room) else portion_behind stream.ending

abbrev pub stream_at : Option ℕ → List GrantedStream → Option GrantedStream
stream_at None streams = None
stream_at (Some place) streams = slice_get streams place

-- the stream of a number, if one was granted
abbrev pub stream_under : ℕ → List GrantedStream → Option GrantedStream
stream_under id streams = if nat_lt id 2 then None else slice_get streams (id - 2)

abbrev pub answer_of : Portion → Result ℕ WorldFault
answer_of (Bytes n) = Ok n
answer_of PortionEnd = Ok 0
answer_of PortionBreak = Err Failed

abbrev pub reading_answer : ℕ → ℕ → Script → Result ℕ WorldFault
reading_answer id room script = unless_refused script.faults (answer_of (portion_of (stream_under id script.streams) room))

-- the bytes of an input that were not read, or that come again
abbrev pub unread : Option GrantedStream → List ℕ
unread None = []
unread (Some stream) = drop stream.at stream.bytes

-- where a reading goes on that came to this place of so many bytes
abbrev pub place_after : Ending → ℕ → ℕ → ℕ
place_after (Again start) len place = if place == len && nat_lt start len then start else place
place_after ending len place = place

abbrev pub advanced_stream : Option GrantedStream → ℕ → ℕ → List GrantedStream → List GrantedStream
advanced_stream None place n streams = streams
advanced_stream (Some stream) place n streams = slice_set streams place (record stream { at = place_after stream.ending (length stream.bytes) (stream.at + n) })

-- so many more bytes of the stream of this place were read
abbrev pub advanced : ℕ → ℕ → List GrantedStream → List GrantedStream
advanced place n streams = advanced_stream (slice_get streams place) place n streams

abbrev pub streams_after : ℕ → Portion → List GrantedStream → List GrantedStream
streams_after id (Bytes n) streams = advanced (id - 2) n streams
streams_after id portion streams = streams

abbrev pub after_reading : ℕ → ℕ → Result ℕ WorldFault → Script → Script
after_reading id room (Err Memory) script = with_plan (after_call script.faults) script
after_reading id room result script = record script { streams = streams_after id (portion_of (stream_under id script.streams) room) script.streams; faults = after_call script.faults }

-- Closings and runs: their numbers are listed, and 0 where none is. The closing of a file takes no answer and gives 0.

abbrev pub closing_by : Option Answer → ℤ
closing_by (Some (Closing number)) = number
closing_by answer = pos 0

abbrev pub closing_number : List Answer → ℤ
closing_number answers = closing_by (answer_at (closing_place answers) answers)

abbrev pub is_command_of : Option GrantedStream → Bool
is_command_of None = false
is_command_of (Some stream) = stream.is_command

abbrev pub closing_answer : ℕ → Script → ℤ
closing_answer id script = if is_command_of (stream_under id script.streams) then closing_number script.answers else pos 0

abbrev pub after_closing : ℕ → Script → Script
after_closing id script = if is_command_of (stream_under id script.streams) then record script { answers = without (closing_place script.answers) script.answers } else script

abbrev pub run_by : Option Answer → ℤ
run_by (Some (Run number)) = number
run_by answer = pos 0

abbrev pub run_number : List Answer → ℤ
run_number answers = run_by (answer_at (run_place answers) answers)

abbrev pub run_answer : Script → Result ℤ WorldFault
run_answer script = unless_refused script.faults (Ok (run_number script.answers))

abbrev pub after_run : Result ℤ WorldFault → Script → Script
after_run (Err Memory) script = with_plan (after_call script.faults) script
after_run result script = record script { answers = without (run_place script.answers) script.answers; faults = after_call script.faults }
