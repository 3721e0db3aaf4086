-- What a row says: a text is a program, and what it comes to.
use Rattle.std.specs.Prelude.{◌≡◌, ◌≤◌, ◌+◌, ℕ, List, [], ◌∷◌, length}
use Rattle.awk_ere.specs.Tree.{Tree}
use Rattle.awk_ere.specs.Limits.{SpellsWithin}
use Rattle.awk_lex.specs.declared.token.Kind.{Kind}
use Rattle.awk_lex.specs.declared.token.Kind.TheVariants.{Ere}
use Rattle.awk_lex.specs.declared.lexer.TheConstants.{LIMIT}
use Rattle.awk_lex.specs.Lexes.{Lexes}
use Rattle.awk_grammar.specs.Tree.{Item}
use Rattle.awk_grammar.specs.Height.{max_height, height_of_program}
use Rattle.awk_grammar.specs.Spelling.{IsProgram}
use Rattle.awk_kinds.specs.definitions.Fits.{Fits}
use Rattle.awk_streams.specs.Oracle.{Oracle}
use Rattle.awk_streams.specs.Openings.{Opening}
use Rattle.awk_semantics.specs.declared.outcome.Outcome.{Outcome}
use Rattle.awk_semantics.specs.Meaning.{StartValues, meaning_of}
use Rattle.awk_rows.specs.definitions.Outside.{plain, given, prints}

-- each ERE among the tokens spells a pattern within the limits
abbrev pub IsReadable : Kind → Type 0
IsReadable (Ere text) = (pattern : Tree) × SpellsWithin pattern text
IsReadable token = Unit {0}

abbrev pub AreReadable : List Kind → Type 0
AreReadable [] = Unit {0}
AreReadable (token ∷ tokens) = IsReadable token × AreReadable tokens

-- The text is a program, which consists of these items: they are what its tokens spell, they are not nested too deep, each ERE is
-- a pattern, and nothing is told against the program's names and where its statements stand.
pub record IsProgramText (text : List ℕ) (items : List Item) : Type 0 where
  pub tokens : List Kind
  pub short : length text ≤ LIMIT
  pub lexes : Lexes tokens text
  pub spells : IsProgram tokens items
  pub low : height_of_program items ≤ max_height
  pub readable : AreReadable tokens
  pub fits : Fits items

-- The text is a program that means this outcome and these outputs, from these start values, with these answers of the outside
-- and this many steps.
pub record Means (text : List ℕ) (start : StartValues) (outside : Oracle) (limit : ℕ) (outcome : Outcome) (outputs : List Opening) : Type 0 where
  pub items : List Item
  pub is_program : IsProgramText text items
  pub comes_to : (meaning_of items start outside limit).outcome ≡ outcome
  pub leaves : (meaning_of items start outside limit).outputs ≡ outputs

-- with this many steps or more
abbrev pub MeansFrom : (text : List ℕ) (start : StartValues) (outside : Oracle) (least : ℕ) (outcome : Outcome) (outputs : List Opening) → Type 0
MeansFrom text start outside least outcome outputs = (more : ℕ) → Means text start outside (least + more) outcome outputs

-- as many steps as a row needs whose steps aren't told
abbrev pub ample : ℕ
ample = 200

-- whatever the outside answers, it comes to this outcome, and these bytes are printed to standard output
abbrev pub Gives : (text : List ℕ) (outcome : Outcome) (bytes : List ℕ) → Type 0
Gives text outcome bytes = (outside : Oracle) → MeansFrom text plain outside ample outcome (prints bytes)

-- where standard input gives these bytes
abbrev pub GivesOf : (text input : List ℕ) (outcome : Outcome) (bytes : List ℕ) → Type 0
GivesOf text input outcome bytes = MeansFrom text plain (given input) ample outcome (prints bytes)
