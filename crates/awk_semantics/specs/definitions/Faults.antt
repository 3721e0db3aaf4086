-- The faults of a run, from those of its parts.
use Rattle.std.specs.Prelude.{Result, Ok, Err}
use Rattle.awk_value.specs.declared.fault.ValueFault.{ValueFault}
use Rattle.awk_value.specs.declared.fault.ValueFault.TheVariants as value
use Rattle.awk_record.specs.declared.record_fault.RecordFault.{RecordFault}
use Rattle.awk_record.specs.declared.record_fault.RecordFault.TheVariants as fields
use Rattle.awk_text.specs.declared.format_fault.FormatFault.{FormatFault}
use Rattle.awk_text.specs.declared.format_fault.FormatFault.TheVariants as format
use Rattle.awk_semantics.specs.declared.fault.Fault.{Fault}
use Rattle.awk_semantics.specs.declared.fault.Fault.TheVariants as fault
use Rattle.awk_semantics.specs.declared.halt.Halt.{Halt}
use Rattle.awk_semantics.specs.declared.halt.Halt.TheVariants as halt

abbrev pub value_fault : ValueFault → Fault
value_fault value.Memory = fault.OutOfMemory
value_fault value.Range = fault.NumberOutOfRange
value_fault value.ZeroDivisor = fault.DivisionByZero
value_fault value.NegativePower = fault.NegativeExponent

abbrev pub record_fault : RecordFault → Fault
record_fault fields.Memory = fault.OutOfMemory
record_fault fields.Pattern = fault.PatternRefused
record_fault fields.FieldNumber = fault.FieldNumberOutOfRange

abbrev pub format_fault : FormatFault → Fault
format_fault format.Memory = fault.OutOfMemory
format_fault format.Range = fault.NumberOutOfRange
format_fault format.Format = fault.FormatRefused

abbrev pub of_values : {A : Type 0} → Result A ValueFault → Result A Halt
of_values (Ok a) = Ok a
of_values (Err f) = Err (halt.Fault (value_fault f))

abbrev pub of_record : {A : Type 0} → Result A RecordFault → Result A Halt
of_record (Ok a) = Ok a
of_record (Err f) = Err (halt.Fault (record_fault f))
