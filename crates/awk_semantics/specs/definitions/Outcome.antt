-- What an outcome of a run means for who started it (POSIX awk, EXIT STATUS and STDERR).
use Rattle.std.specs.Prelude.{ℕ, List, codes}
use Rattle.awk_semantics.specs.declared.outcome.Outcome.{Outcome}
use Rattle.awk_semantics.specs.declared.outcome.Outcome.TheVariants.{Ended, Fault, Stopped}
use Rattle.awk_semantics.specs.declared.fault.Fault.TheVariants as fault
use Rattle.awk_semantics.specs.declared.fault as declared

abbrev pub status_of : Outcome → ℕ
status_of (Ended status) = status
status_of (Fault f) = 2
status_of Stopped = 3

-- the line for a fault
abbrev pub fault_text : declared.Fault.Fault → List ℕ
fault_text fault.OutOfMemory = codes "awk: fault 1: out of memory"
fault_text fault.WriteFailed = codes "awk: fault 2: write failed"
fault_text fault.NumberOutOfRange = codes "awk: fault 3: number out of range"
fault_text fault.DivisionByZero = codes "awk: fault 4: division by zero"
fault_text fault.NegativeExponent = codes "awk: fault 5: negative exponent"
fault_text fault.PatternRefused = codes "awk: fault 6: pattern refused"
fault_text fault.FormatRefused = codes "awk: fault 7: format refused"
fault_text fault.FieldNumberOutOfRange = codes "awk: fault 8: field number out of range"
fault_text fault.InputNotReadable = codes "awk: fault 9: input not readable"
fault_text fault.OutputNotOpened = codes "awk: fault 10: output not opened"
fault_text fault.CallsTooDeep = codes "awk: fault 11: calls too deep"
fault_text fault.NextWithoutRecord = codes "awk: fault 12: next without a record"
fault_text fault.TooManyStreams = codes "awk: fault 13: too many streams"
fault_text fault.AssignmentRefused = codes "awk: fault 14: assignment refused"
fault_text fault.RecordTooLong = codes "awk: fault 16: record too long"
