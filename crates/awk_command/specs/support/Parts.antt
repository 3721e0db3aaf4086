-- What the parts of the code do: the options that were read, and one reading of a program file.
use Rattle.std.specs.Prelude.{◌≡◌, ◌⊎◌, ℕ, Bool, true, false, List, ◌∷◌, ◌++◌, map}
use Rattle.awk_world.specs.declared.world.WorldFault.{WorldFault}
use Rattle.awk_world.specs.declared.world.WorldFault.TheVariants as fault
use Rattle.awk_streams.specs.Log.{Event, Read, Ended, Broke}
use Rattle.awk_run.specs.Start.{pair_of}
use Rattle.awk_command.specs.declared.options.Settings.{Settings as CodeSettings}
use Rattle.awk_command.specs.declared.report.NotRun.{NotRun}
use Rattle.awk_command.specs.declared.report.NotRun.TheVariants.{Usage, NotReadable, Memory, Refused}
use Rattle.awk_command.specs.definitions.CommandLine.{Settings, texts}
use Rattle.awk_command.specs.definitions.ProgramText.{ReadsSome, Breaks}

abbrev pub settings_of : CodeSettings → Settings
settings_of s = record { pre = map pair_of s.pre.items; limit = s.limit; files = texts s.files.items }

-- one reading: more bytes, or the end
abbrev pub ReadsChunk : ℕ → Bool → List ℕ → List ℕ → List Event → List Event → Type 0
ReadsChunk id true old new log log' = (bs : List ℕ) × (new ≡ old ++ bs) × (log' ≡ Read id bs ∷ log)
ReadsChunk id false old new log log' = (new ≡ old) × (log' ≡ Ended id ∷ log)

-- a reading that gave nothing, by why: it broke, or memory was refused before it or behind it
abbrev pub LeavesChunk : NotRun → ℕ → List Event → List Event → Type 0
LeavesChunk NotReadable id log log' = log' ≡ Broke id ∷ log
LeavesChunk Memory id log log' = (log' ≡ log) ⊎ ((bs : List ℕ) × (log' ≡ Read id bs ∷ log))
LeavesChunk Usage id log log' = ⊥
LeavesChunk (Refused refusal) id log log' = ⊥

-- what is done with an input that isn't read whole, by why: it breaks, or memory is refused
abbrev pub LeavesInput : NotRun → ℕ → List Event → List Event → Type 0
LeavesInput NotReadable id log log' = Breaks id log log'
LeavesInput Memory id log log' = ReadsSome id log log'
LeavesInput Usage id log log' = ⊥
LeavesInput (Refused refusal) id log log' = ⊥

-- a fault of the world, as the reason why nothing is run
abbrev pub reason_of : WorldFault → NotRun
reason_of fault.Memory = Memory
reason_of fault.Failed = NotReadable
