-- What comes of the words after `awk`: whether a program is run, what is reported of it, and the status
-- (POSIX awk, the awk utility; EXIT STATUS).
use Rattle.std.specs.Prelude.{◌≡◌, ◌⊎◌, ℕ, ◌+◌, ◌&&◌, ◌==◌, List, take, drop, map, filter, position, Option, Some, None, Result, Ok, Err, Vec}
use Rattle.std.specs.Global.{Global}
use Rattle.std.specs.Option.{option_map}
use Rattle.std.specs.Str.{is_utf8}
use Rattle.awk_streams.specs.Writes.{OnlyWritesTo}
use Rattle.awk_grammar.specs.Tree.{Item}
use Rattle.awk_run.specs.Accepted.{Accepted}
use Rattle.awk_streams.specs.WorldState.{WorldState}
use Rattle.awk_run.specs.Headline.{Executed}
use Rattle.awk_run.specs.Meaning.{StartValues}
use Rattle.awk_run.specs.Outcome.{status_of}
use Rattle.awk_run.specs.Start.{pair_of}
use Rattle.awk_semantics.specs.declared.outcome.Outcome.{Outcome}
use Rattle.awk_runtime.specs.declared.start.Assignment.{Assignment}
use Rattle.awk_command.specs.definitions.CommandLine.{Text, CommandLine, command_line_of}
use Rattle.awk_command.specs.definitions.ProgramText.{ProvidesText}
use Rattle.awk_command.specs.definitions.Report.{ReportsOutcome, ReportsNotRun}
use Rattle.awk_command.specs.declared.report.NotRun.{NotRun}
use Rattle.awk_command.specs.declared.report.NotRun.TheVariants.{Usage, NotReadable, Memory, Refused}

-- an entry of the environment: a name, and all that follows the first `=` (XBD 8.1)
abbrev pub entry_of : List ℕ → Option (List ℕ × List ℕ)
entry_of entry = option_map (λ at. (take at entry, drop (at + 1) entry)) (position (λ b. b == 61) entry)

-- the entries of the environment that are UTF-8
abbrev pub environ_of : List Assignment → List (List ℕ × List ℕ)
environ_of entries = map pair_of (filter (λ entry. is_utf8 entry.name.items && is_utf8 entry.text.items) entries)

abbrev pub start_of : CommandLine → List Assignment → StartValues
start_of c environ = record { pre = c.pre; operands = c.operands; environ = environ_of environ }

-- the text is run or refused, or there is no memory to ask for it
abbrev pub RunsText : Type 0 → List ℕ → StartValues → ℕ → WorldState → Result Outcome NotRun → WorldState → Type 0
RunsText is_logged text start limit before (Ok outcome) after = Executed is_logged text start limit before after (Ok outcome)
RunsText is_logged text start limit before (Err (Refused refusal)) after = Executed is_logged text start limit before after (Err refusal) × (after ≡ before)
RunsText is_logged text start limit before (Err Memory) after = after ≡ before
RunsText is_logged text start limit before (Err Usage) after = ⊥
RunsText is_logged text start limit before (Err NotReadable) after = ⊥

-- a text that was provided is run
abbrev pub RunsProvidedText : Type 0 → CommandLine → List Assignment → Result (Vec ℕ Global) NotRun → WorldState → Result Outcome NotRun → WorldState → Type 0
RunsProvidedText is_logged c environ (Ok text) before result after = RunsText is_logged text.items (start_of c environ) c.limit before result after
RunsProvidedText is_logged c environ (Err why) before result after = (result ≡ Err why) × (after ≡ before)

-- the text of the program is provided, and then run
pub record RunsCommandLine (is_logged : Type 0) (c : CommandLine) (environ : List Assignment) (before : WorldState) (result : Result Outcome NotRun) (after : WorldState) : Type 0 where
  pub text : Result (Vec ℕ Global) NotRun
  pub between : WorldState
  pub provided : ProvidesText is_logged c.source before text between
  pub ran : RunsProvidedText is_logged c environ text between result after

-- nothing was done, for this reason
pub record DoesNothing (why : NotRun) (before : WorldState) (result : Result Outcome NotRun) (after : WorldState) : Type 0 where
  pub answered : result ≡ Err why
  pub untouched : after ≡ before

-- words that ask for nothing are a usage fault, and what others ask for is run, unless there is no memory to read them
pub record Invokes (is_logged : Type 0) (words : List (List ℕ)) (environ : List Assignment) (before : WorldState) (result : Result Outcome NotRun) (after : WorldState) : Type 0 where
  pub usage : command_line_of words ≡ None → DoesNothing Usage before result after ⊎ DoesNothing Memory before result after
  pub runs : (c : CommandLine) → command_line_of words ≡ Some c → RunsCommandLine is_logged c environ before result after ⊎ DoesNothing Memory before result after

-- the status of an outcome, or 2 where nothing was run
abbrev pub status_after : Result Outcome NotRun → ℕ
status_after (Ok outcome) = status_of outcome
status_after (Err why) = 2

abbrev pub Reports : Result Outcome NotRun → WorldState → WorldState → Type 0
Reports (Ok outcome) before after = ReportsOutcome outcome before after
Reports (Err why) before after = ReportsNotRun why before after

-- nothing was done but writing to standard error, and the status is 2
pub record OnlyReports (is_logged : Type 0) (before : WorldState) (status : ℕ) (after : WorldState) : Type 0 where
  pub answered : status ≡ 2
  pub only : is_logged → OnlyWritesTo 1 before.log after.log

-- What the words come to, and then what is reported of it. So a usage fault runs nothing, and neither does a word
-- that is no program.
pub record RunsUtility (is_logged : Type 0) (words : List (List ℕ)) (environ : List Assignment) (before : WorldState) (status : ℕ) (after : WorldState) : Type 0 where
  pub outcome : Result Outcome NotRun
  pub left : WorldState
  pub invokes : Invokes is_logged words environ before outcome left
  pub answered : status ≡ status_after outcome
  pub reported : is_logged → Reports outcome left after
  pub usage : command_line_of words ≡ None → OnlyReports is_logged before status after
  pub refused : (c : CommandLine) (text : List ℕ) → command_line_of words ≡ Some c → c.source ≡ Text text → ((items : List Item) → Accepted text items → ⊥) → OnlyReports is_logged before status after
