-- What the code answers where a named input is asked for a record, in the words of the definitions.
use Rattle.std.specs.Prelude.{Result, Ok, Err}
use Rattle.awk_streams.specs.declared.input.NextNamed.{NextNamed}
use Rattle.awk_streams.specs.declared.input.NextNamed.TheVariants as next
use Rattle.awk_semantics.specs.declared.halt.Halt.{Halt}
use Rattle.awk_semantics.specs.Streams.{Answer, ARecord, NoRecord, NotReadable}

abbrev pub answer_of : NextNamed → Answer
answer_of (next.Record text) = ARecord text
answer_of next.End = NoRecord
answer_of next.NotReadable = NotReadable

abbrev pub answers_of : Result NextNamed Halt → Result Answer Halt
answers_of (Ok x) = Ok (answer_of x)
answers_of (Err h) = Err h
