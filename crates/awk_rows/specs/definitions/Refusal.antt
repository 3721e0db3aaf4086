-- Why a text is no program.
use Rattle.std.specs.Prelude.{◌≡◌, ◌≤◌, ◌<◌, ℕ, List, length, Some}
use Rattle.awk_lex.specs.declared.token.Kind.{Kind}
use Rattle.awk_lex.specs.declared.lexer.TheConstants.{LIMIT}
use Rattle.awk_lex.specs.declared.refusal.RefusalCode.{RefusalCode}
use Rattle.awk_lex.specs.declared.refusal.RefusalCode.TheVariants.{NotAProgram, NestedTooDeep}
use Rattle.awk_lex.specs.Lexes.{Lexes, Breaks}
use Rattle.awk_grammar.specs.Tree.{Item}
use Rattle.awk_grammar.specs.Height.{max_height, height_of_program}
use Rattle.awk_grammar.specs.Spelling.{IsProgram}
use Rattle.awk_kinds.specs.definitions.Fits.{first_refusal}
use Rattle.awk_rows.specs.definitions.Row.{AreReadable}

-- the text is refused with this code
pub data IsRefused (text : List ℕ) : RefusalCode → Type 0 where
  -- a fault stands where its tokens end
  breaks : {code : RefusalCode} → length text ≤ LIMIT → Breaks code text → IsRefused text code
  -- no tree spells its tokens
  spells_nothing : (tokens : List Kind) → length text ≤ LIMIT → Lexes tokens text → ((items : List Item) → IsProgram tokens items → ⊥) → IsRefused text NotAProgram
  -- the tree that spells them is too high
  is_too_high : (tokens : List Kind) (items : List Item) → length text ≤ LIMIT → Lexes tokens text → IsProgram tokens items → max_height < height_of_program items → IsRefused text NestedTooDeep
  -- it is a program but for its names and where its statements stand, and of what is told against these this is the first
  does_not_fit : {code : RefusalCode} (tokens : List Kind) (items : List Item) → length text ≤ LIMIT → Lexes tokens text → IsProgram tokens items → height_of_program items ≤ max_height → AreReadable tokens → first_refusal items ≡ Some code → IsRefused text code
