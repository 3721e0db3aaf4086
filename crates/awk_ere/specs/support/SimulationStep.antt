-- One step over the program of a compiled pattern, at the start of the text or not.
use Rattle.std.specs.Prelude.{◌≡◌, ℕ, ◌<◌, Bool, false, List, [], map, length, replicate}
use Rattle.awk_ere.specs.definitions.Program.{ResolvedInstruction, resolve}
use Rattle.awk_ere.specs.support.Layout.{byte_count}
use Rattle.awk_ere.specs.support.Simulation.{registers, exec}
use Rattle.awk_ere.specs.declared.pattern.Pattern.{Pattern}
use Rattle.awk_ere.specs.declared.simulation.PositionSet.{PositionSet}

abbrev pub program : Pattern → List ResolvedInstruction
program p = map (resolve p.program.classes.items) p.program.instructions.items

-- how many instructions and positions there are
abbrev pub count_of : Pattern → ℕ
count_of p = length p.program.instructions.items

-- whether the flow leaves the program before the byte x, where m enters it, and the text ends or not
abbrev pub leaves : Pattern → List Bool → Bool → Bool → Bool → ℕ → Bool
leaves p cs st m en x = (exec st en x (program p) cs (registers m false [])).0.now.before

-- the positions behind the byte x
abbrev pub behind : Pattern → List Bool → Bool → Bool → Bool → ℕ → List Bool
behind p cs st m en x = (exec st en x (program p) cs (registers m false [])).1

-- the positions where no match has begun
abbrev pub dead_positions : Pattern → List Bool
dead_positions p = replicate (count_of p) false

-- behind the text's start, nothing begins with the byte x where m enters
abbrev pub IsStillAt : Pattern → Bool → ℕ → Type 0
IsStillAt p m x =
    (leaves p (dead_positions p) false m false x ≡ false) × (behind p (dead_positions p) false m false x ≡ dead_positions p)

-- nor with any byte
abbrev pub IsStill : Pattern → Bool → Type 0
IsStill p m = (x : ℕ) → x < byte_count → IsStillAt p m x

-- there is a position and room for a signal for each instruction
pub record AreFor (position_set : PositionSet) (p : Pattern) : Type 0 where
  pub positions : length position_set.positions.items ≡ count_of p
  pub kept : length position_set.kept.items ≡ count_of p
