-- The straight program of a pattern.
use Rattle.std.specs.Prelude.{◌≡◌, map, ℕ, suc, ◌+◌, ◌==◌, true, List, [], ◌∷◌, slice_index_or}
use Rattle.awk_ere.specs.definitions.Tree.{Class, class_of, Tree}
use Rattle.awk_ere.specs.definitions.Desugared.{Re, eps, one, first, last, cat, alt, plus, desugar, IsOrdered}
use Rattle.awk_ere.specs.declared.program.Program.{Program}
use Rattle.awk_ere.specs.declared.program.Instruction.{Instruction}
use Rattle.awk_ere.specs.declared.program.Instruction.TheVariants as instructions

-- an instruction, with its class and not the number of the class
pub data ResolvedInstruction : Type 0 where
  read : Class → ResolvedInstruction
  at_start : ResolvedInstruction
  at_end : ResolvedInstruction
  fork : ResolvedInstruction
  swap : ResolvedInstruction
  join : ResolvedInstruction
  enter : ℕ → ResolvedInstruction
  leave : ResolvedInstruction

-- an instruction of the code, where the classes are these
abbrev pub resolve : List Class → Instruction → ResolvedInstruction
resolve cs (instructions.Byte b) = read (class_of (λ x. x == b))
resolve cs instructions.Any = read (class_of (λ x. true))
resolve cs (instructions.Class n) = read (slice_index_or cs n [])
resolve cs instructions.Start = at_start
resolve cs instructions.End = at_end
resolve cs instructions.Fork = fork
resolve cs instructions.Swap = swap
resolve cs instructions.Join = join
resolve cs (instructions.Enter d) = enter d
resolve cs instructions.Leave = leave

-- how many instructions a pattern takes
abbrev pub code_size : Re → ℕ
code_size eps = 0
code_size (one c) = 1
code_size first = 1
code_size last = 1
code_size (cat a b) = code_size a + code_size b
code_size (alt a b) = suc (code_size a + suc (code_size b + 1))
code_size (plus a) = suc (code_size a + 1)

-- the pattern's instructions, and then others
abbrev pub code : Re → List ResolvedInstruction → List ResolvedInstruction
code eps instructions = instructions
code (one c) instructions = read c ∷ instructions
code first instructions = at_start ∷ instructions
code last instructions = at_end ∷ instructions
code (cat a b) instructions = code a (code b instructions)
code (alt a b) instructions = fork ∷ code a (swap ∷ code b (join ∷ instructions))
code (plus a) instructions = enter (suc (code_size a)) ∷ code a (leave ∷ instructions)

-- the program is that of the tree
abbrev pub Compiles : Tree → Program → Type 0
Compiles t p = IsOrdered t × (map (resolve p.classes.items) p.instructions.items ≡ code (desugar t) [])
