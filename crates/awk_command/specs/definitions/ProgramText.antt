-- The text of a program, of a word or of files (POSIX awk, OPTIONS, `-f progfile`; OPERANDS, program).
use Rattle.std.specs.Prelude.{◌≡◌, ◌⊎◌, ◌<◌, ℕ, ℤ, List, [], ◌∷◌, ◌++◌, length, Some, None, Result, Ok, Err, Vec, codes, bytes_eq, nat_eq, if◌then◌else◌}
use Rattle.std.specs.Global.{Global}
use Rattle.std.specs.List.{ends_with}
use Rattle.awk_world.specs.declared.world.InputKind.{InputKind}
use Rattle.awk_world.specs.declared.world.InputKind.TheVariants.{Standard, File}
use Rattle.awk_streams.specs.Log.{Event, OpenedInput, Read, Ended, Broke, Closed}
use Rattle.awk_streams.specs.Writes.{GoesOn}
use Rattle.awk_run.specs.Accepted.{longest_text}
use Rattle.awk_streams.specs.WorldState.{WorldState}
use Rattle.awk_command.specs.definitions.CommandLine.{ProgramSource, Text, Files}
use Rattle.awk_command.specs.declared.report.NotRun.{NotRun}
use Rattle.awk_command.specs.declared.report.NotRun.TheVariants.{Usage, NotReadable, Memory, Refused}

-- the name `-` is standard input, which is opened without a name
abbrev pub kind_of : List ℕ → InputKind
kind_of name = if bytes_eq name (codes "-") then Standard else File

abbrev pub opened_name : List ℕ → List ℕ
opened_name name = if bytes_eq name (codes "-") then [] else name

-- the text, with a newline behind it if it ends with none
abbrev pub with_newline : List ℕ → List ℕ
with_newline text = if ends_with nat_eq text (10 ∷ []) then text else text ++ 10 ∷ []

-- these events read just these bytes of the input
abbrev pub ReadsBytes : ℕ → List ℕ → List Event → Type 0
ReadsBytes id bytes [] = bytes ≡ []
ReadsBytes id bytes (Read i bs ∷ es) = (i ≡ id) × ((rest : List ℕ) × (bytes ≡ bs ++ rest) × ReadsBytes id rest es)
ReadsBytes id bytes (e ∷ es) = ⊥

-- an input is read to its end, or until its bytes are too many for a program
pub record ReadsInput (id : ℕ) (bytes : List ℕ) (log log' : List Event) : Type 0 where
  pub read : List Event
  pub reads : GoesOn (ReadsBytes id bytes) log read
  pub ended : (log' ≡ Ended id ∷ read) ⊎ ((longest_text < length bytes) × (log' ≡ read))

-- some of an input is read, perhaps to its end
pub record ReadsSome (id : ℕ) (log log' : List Event) : Type 0 where
  pub bytes : List ℕ
  pub read : List Event
  pub reads : GoesOn (ReadsBytes id bytes) log read
  pub ended : (log' ≡ read) ⊎ (log' ≡ Ended id ∷ read)

-- some of an input is read, and then it breaks
pub record Breaks (id : ℕ) (log log' : List Event) : Type 0 where
  pub bytes : List ℕ
  pub read : List Event
  pub reads : GoesOn (ReadsBytes id bytes) log read
  pub broke : log' ≡ Broke id ∷ read

-- a file is opened, this is done with it by its number, and it is closed
pub record UsesFile (Does : ℕ → List Event → List Event → Type 0) (name : List ℕ) (log log' : List Event) : Type 0 where
  pub id : ℕ
  pub answer : ℤ
  pub left : List Event
  pub does : Does id (OpenedInput (kind_of name) (opened_name name) (Some id) ∷ log) left
  pub closed : log' ≡ Closed id answer ∷ left

-- a file is opened, read and closed
abbrev pub ReadsFile : List ℕ → List ℕ → List Event → List Event → Type 0
ReadsFile name bytes log log' = UsesFile (λ id. ReadsInput id bytes) name log log'

-- one file after the other is read, and their texts are joined
abbrev pub ReadsFiles : List (List ℕ) → List ℕ → List Event → List Event → Type 0
ReadsFiles [] text log log' = (text ≡ []) × (log' ≡ log)
ReadsFiles (name ∷ names) text log log' = (bytes : List ℕ) × ((rest : List ℕ) × ((between : List Event) × ReadsFile name bytes log between × (text ≡ with_newline bytes ++ rest) × ReadsFiles names rest between log'))

-- what is done with the file at which the reading stops, by why
abbrev pub LeavesFile : NotRun → List ℕ → List Event → List Event → Type 0
-- its opening is refused, or it breaks
LeavesFile NotReadable name log log' = (log' ≡ OpenedInput (kind_of name) (opened_name name) None ∷ log) ⊎ UsesFile Breaks name log log'
-- memory is refused before it, or behind some of it
LeavesFile Memory name log log' = (log' ≡ log) ⊎ UsesFile ReadsSome name log log'
LeavesFile Usage name log log' = ⊥
LeavesFile (Refused refusal) name log log' = ⊥

-- one file after the other is read, up to the one at which the reading stops
pub record ReadsUntil (why : NotRun) (names : List (List ℕ)) (log log' : List Event) : Type 0 where
  pub before : List (List ℕ)
  pub name : List ℕ
  pub behind : List (List ℕ)
  pub named : names ≡ before ++ name ∷ behind
  pub text : List ℕ
  pub between : List Event
  pub reads : ReadsFiles before text log between
  pub leaves : LeavesFile why name between log'

-- a file was not readable, or memory was refused
abbrev pub IsNotRead : NotRun → Type 0
IsNotRead why = (why ≡ NotReadable) ⊎ (why ≡ Memory)

-- the text of the source, and what is done in the world for it
abbrev pub ProvidesText : Type 0 → ProgramSource → WorldState → Result (Vec ℕ Global) NotRun → WorldState → Type 0
ProvidesText is_logged (Text word) before (Ok text) after = (text.items ≡ word) × (after ≡ before)
ProvidesText is_logged (Text word) before (Err why) after = ⊥
ProvidesText is_logged (Files names) before (Ok text) after = is_logged → ReadsFiles names text.items before.log after.log
ProvidesText is_logged (Files names) before (Err why) after = IsNotRead why × (is_logged → ReadsUntil why names before.log after.log)
