-- The longest run of bytes that a program reads one behind another, in no branch and no body that may come again.
use Rattle.std.specs.Prelude.{ℕ, zero, suc, ◌+◌, ◌-◌, List, [], ◌∷◌, ◌++◌, length, nat_lt, Option, Some, None, if◌then◌else◌}
use Rattle.awk_ere.specs.declared.program.Instruction.{Instruction}
use Rattle.awk_ere.specs.declared.program.Instruction.TheVariants as instructions

-- how many branches and bodies are open behind an instruction
abbrev pub depth_behind : Instruction → ℕ → ℕ
depth_behind instructions.Fork d = d + 1
depth_behind (instructions.Enter n) d = d + 1
depth_behind instructions.Join d = d - 1
depth_behind instructions.Leave d = d - 1
depth_behind instruction d = d

abbrev pub byte_of : Instruction → Option ℕ
byte_of (instructions.Byte b) = Some b
byte_of instruction = None

-- the byte that is read where none is open
abbrev pub byte_at : ℕ → Instruction → Option ℕ
byte_at zero instruction = byte_of instruction
byte_at (suc d) instruction = None

-- the longer one of two runs, of which the second is as good
abbrev pub longer : List ℕ → List ℕ → List ℕ
longer run longest = if nat_lt (length longest) (length run) then run else longest

-- the run behind an instruction that reads a byte or breaks it, and the longest run that is complete
abbrev pub run_behind : Option ℕ → List ℕ → List ℕ
run_behind None run = []
run_behind (Some b) run = run ++ b ∷ []

abbrev pub longest_behind : Option ℕ → List ℕ → List ℕ → List ℕ
longest_behind None run longest = longer run longest
longest_behind (Some b) run longest = longest

abbrev pub longest_run : List Instruction → ℕ → List ℕ → List ℕ → List ℕ
longest_run [] d run longest = longer run longest
longest_run (x ∷ rest) d run longest =
    let here = byte_at (depth_behind x d) x in
    longest_run rest (depth_behind x d) (run_behind here run) (longest_behind here run longest)
