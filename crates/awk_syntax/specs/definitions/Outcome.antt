-- What reading tokens answers.
use Rattle.std.specs.Prelude.{◌≡◌, ◌<◌, ◌≤◌, ℕ, List, Result, Ok, Err}
use Rattle.awk_lex.specs.Told.{kinds_of}
use Rattle.awk_lex.specs.declared.token.Kind.{Kind}
use Rattle.awk_lex.specs.declared.token.Token.{Token}
use Rattle.awk_lex.specs.declared.refusal.Refusal.{Refusal}
use Rattle.awk_lex.specs.declared.refusal.RefusalCode.{RefusalCode}
use Rattle.awk_lex.specs.declared.refusal.RefusalCode.TheVariants.{NotAProgram, NestedTooDeep, PatternIllFormed, PatternCountRefused, PatternTooLarge, OutOfMemory}
use Rattle.awk_lex.specs.Refused.{IsOutOfMemory}
use Rattle.awk_grammar.specs.Tree.{Item}
use Rattle.awk_grammar.specs.Height.{max_height, height_of_program}
use Rattle.awk_grammar.specs.Spelling.{IsProgram}
use Rattle.awk_syntax.specs.definitions.Patterns.{IsLeftmostRefused}
use Rattle.awk_grammar.specs.View.{tree_of}
use Rattle.awk_grammar.specs.declared.tree.Tree.{Tree}

-- these items are read, unless memory is refused
abbrev pub Reads : Result Tree Refusal → List Item → Type 0
Reads (Ok tree) items = tree_of tree ≡ items
Reads (Err refusal) items = IsOutOfMemory refusal

-- these are the items of the tokens, and not too high
abbrev pub IsProgramWithinHeight : List Kind → List Item → Type 0
IsProgramWithinHeight ts items = IsProgram ts items × (height_of_program items ≤ max_height)

-- the tokens are a program that is not too high, and the leftmost of its EREs that are not readable is refused
abbrev pub RefusesPattern : RefusalCode → ℕ → List Token → Type 0
RefusesPattern code line tokens = ((items : List Item) × IsProgramWithinHeight (kinds_of tokens) items) × IsLeftmostRefused code line tokens

-- why the tokens are refused with this code and this line
abbrev pub Justifies : RefusalCode → ℕ → List Token → Type 0
-- no tree spells them, however high
Justifies NotAProgram line tokens = (items : List Item) → IsProgram (kinds_of tokens) items → ⊥
-- one does, and is too high
Justifies NestedTooDeep line tokens = (items : List Item) × IsProgram (kinds_of tokens) items × (max_height < height_of_program items)
Justifies PatternIllFormed line tokens = RefusesPattern PatternIllFormed line tokens
Justifies PatternCountRefused line tokens = RefusesPattern PatternCountRefused line tokens
Justifies PatternTooLarge line tokens = RefusesPattern PatternTooLarge line tokens
Justifies OutOfMemory line tokens = Unit {0}
Justifies code line tokens = ⊥
