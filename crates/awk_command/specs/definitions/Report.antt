-- What the program says of itself on standard error (POSIX awk, STDERR).
use Rattle.std.specs.Prelude.{◌≡◌, ◌⊎◌, ℕ, List, [], ◌∷◌, ◌++◌, length, take, Option, Some, None, codes}
use Rattle.awk_lex.specs.Refused.{refusal_text}
use Rattle.awk_streams.specs.Writes.{GoesOn, Writes}
use Rattle.awk_streams.specs.WorldState.{WorldState}
use Rattle.awk_run.specs.Outcome.{fault_text}
use Rattle.awk_semantics.specs.declared.fault.Fault.TheVariants.{OutOfMemory}
use Rattle.awk_semantics.specs.declared.outcome.Outcome.{Outcome}
use Rattle.awk_semantics.specs.declared.outcome.Outcome.TheVariants.{Ended, Fault, Stopped}
use Rattle.awk_command.specs.declared.report.NotRun.{NotRun}
use Rattle.awk_command.specs.declared.report.NotRun.TheVariants.{Usage, NotReadable, Memory, Refused}

-- the line of an outcome, without its newline; a run that ended by itself has none
abbrev pub line_of : Outcome → Option (List ℕ)
line_of (Ended status) = None
line_of (Fault fault) = Some (fault_text fault)
line_of Stopped = Some (codes "awk: stopped: step limit reached")

abbrev pub out_of_memory : List ℕ
out_of_memory = fault_text OutOfMemory

-- the line that says why nothing was run
abbrev pub line_for : NotRun → List ℕ
line_for Usage = codes "awk: usage: awk [-F sep] [-v name=text].. [-L n] [-f file.. | program] [operand..]"
line_for NotReadable = codes "awk: program file not readable"
line_for Memory = out_of_memory
line_for (Refused refusal) = codes "awk: " ++ refusal_text refusal

-- nothing was done but writing a beginning of the line and its newline to standard error, and all of it
-- unless memory was refused or a write failed meanwhile
pub record ReportsLine (line : List ℕ) (before after : WorldState) : Type 0 where
  pub count : ℕ
  pub writes : GoesOn (Writes 1 (take count (line ++ 10 ∷ []))) before.log after.log
  pub all : after.failures ≡ before.failures → count ≡ length (line ++ 10 ∷ [])

abbrev pub ReportsIfAny : Option (List ℕ) → WorldState → WorldState → Type 0
ReportsIfAny None before after = after ≡ before
ReportsIfAny (Some line) before after = ReportsLine line before after

abbrev pub ReportsOutcome : Outcome → WorldState → WorldState → Type 0
ReportsOutcome outcome before after = ReportsIfAny (line_of outcome) before after

-- where there is no memory to tell of a refusal, that is told
abbrev pub ReportsNotRun : NotRun → WorldState → WorldState → Type 0
ReportsNotRun (Refused refusal) before after = ReportsLine (line_for (Refused refusal)) before after ⊎ ReportsLine out_of_memory before after
ReportsNotRun why before after = ReportsLine (line_for why) before after
