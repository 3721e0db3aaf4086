-- What the answer of the parser tells of the tokens: they are no program, or one that is too high, or these items.
use Rattle.std.specs.Prelude.{ℕ, ◌<◌, ◌≤◌, List, Option, Some, None}
use Rattle.awk_lex.specs.declared.token.Kind.{Kind}
use Rattle.awk_grammar.specs.definitions.Tree.{Item}
use Rattle.awk_grammar.specs.definitions.Height.{height_of_program}
use Rattle.awk_grammar.specs.definitions.Spelling.{IsProgram}

-- m: the greatest height that is allowed
abbrev pub Says : (m : ℕ) → List Kind → Option (Option (List Item)) → Type 0
-- no tree spells them, however high
Says m ts None = (items : List Item) → IsProgram ts items → ⊥
-- one does, and is too high
Says m ts (Some None) = (items : List Item) × IsProgram ts items × (m < height_of_program items)
Says m ts (Some (Some items)) = IsProgram ts items × (height_of_program items ≤ m)
