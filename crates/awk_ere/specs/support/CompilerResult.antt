-- What is made of a text whose tokens are those of a pattern, and none of them bad.
use Rattle.std.specs.Prelude.{◌≡◌, ◌<◌, ◌≤◌, ℕ, false, List, Result, Ok, Err}
use Rattle.awk_ere.specs.definitions.Tree.{Tree, none, size}
use Rattle.awk_ere.specs.definitions.Tokens.{AreSpelt}
use Rattle.awk_ere.specs.definitions.Limits.{greatest_size, any_bad}
use Rattle.awk_ere.specs.definitions.Written.{Pattern, tokens, pattern_tree}
use Rattle.awk_ere.specs.definitions.Program.{Compiles}
use Rattle.awk_ere.specs.support.CompilerState.{CompilerState, ended_instructions}
use Rattle.awk_ere.specs.declared.program.Program.{Program}
use Rattle.awk_ere.specs.declared.fault.PatternFault.{PatternFault}
use Rattle.awk_ere.specs.declared.fault.PatternFault.TheVariants.{Memory, IllFormed, BadCount, TooLarge}

-- the text is written so, and no token is bad
abbrev pub IsClean : Pattern → List ℕ → Type 0
IsClean p text = AreSpelt (tokens p) text × (any_bad (tokens p) ≡ false)

abbrev pub IsCleanText : List ℕ → Type 0
IsCleanText text = (p : Pattern) × IsClean p text

-- either the tree's program is made, or the tree is too large
abbrev pub Makes : Tree → Result Program PatternFault → Type 0
Makes t (Ok made) = (size t ≤ greatest_size) × Compiles t made
Makes t (Err Memory) = Unit {0}
Makes t (Err IllFormed) = ⊥
Makes t (Err BadCount) = ⊥
Makes t (Err TooLarge) = greatest_size < size t

-- the same for whatever pattern the text is written as
abbrev pub Builds : List ℕ → Result Program PatternFault → Type 0
Builds text result = (p : Pattern) → IsClean p text → Makes (pattern_tree p none) result

-- the end of a compiler state
abbrev pub Finishes : CompilerState → Result Program PatternFault → Type 0
Finishes d (Ok made) = (d.size ≤ greatest_size) × (made.instructions.items ≡ ended_instructions d) × (made.classes.items ≡ d.classes)
Finishes d (Err Memory) = Unit {0}
Finishes d (Err IllFormed) = ⊥
Finishes d (Err BadCount) = ⊥
Finishes d (Err TooLarge) = greatest_size < d.size
