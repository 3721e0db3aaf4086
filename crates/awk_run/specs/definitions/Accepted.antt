-- Which texts are programs that can be run, and why the others are refused (POSIX awk, Lexical Conventions; Grammar).
use Rattle.std.specs.Prelude.{◌≡◌, ◌≤◌, ◌<◌, ℕ, List, length, Some}
use Rattle.awk_lex.specs.declared.token.Kind.{Kind}
use Rattle.awk_lex.specs.declared.refusal.RefusalCode.{RefusalCode}
use Rattle.awk_lex.specs.declared.refusal.RefusalCode.TheVariants.{UnexpectedByte, OpenString, OpenPattern, EscapeRefused, NumberRefused, ProgramTooLong, NotAProgram, NestedTooDeep, PatternIllFormed, PatternCountRefused, PatternTooLarge, ArrayAndScalar, UnknownFunction, DefinedTwice, TooManyArguments, ParameterRefused, StatementOutOfPlace, NameLeftOut, FunctionAsVariable, OutOfMemory}
use Rattle.awk_lex.specs.Lexes.{Lexes, Breaks}
use Rattle.awk_lex.specs.declared.lexer.TheConstants.{LIMIT}
use Rattle.awk_grammar.specs.Tree.{Item}
use Rattle.awk_grammar.specs.Height.{max_height, height_of_program}
use Rattle.awk_grammar.specs.Spelling.{IsProgram}
use Rattle.awk_syntax.specs.Patterns.{AreReadable, RefusesEre}
use Rattle.awk_kinds.specs.definitions.Fits.{Fits, first_refusal}

-- the most bytes of a program text
abbrev pub longest_text : ℕ
longest_text = LIMIT

-- the text is tokens
pub record HasTokens (text : List ℕ) (tokens : List Kind) : Type 0 where
  pub short : length text ≤ longest_text
  pub lexes : Lexes tokens text

-- the text is these tokens, which the grammar spells this tree by; it is not nested too deep, and each ERE is a pattern
pub record IsSpelled (text : List ℕ) (tokens : List Kind) (items : List Item) : Type 0 where
  pub has : HasTokens text tokens
  pub spells : IsProgram tokens items
  pub low : height_of_program items ≤ max_height
  pub readable : AreReadable tokens

-- the text is a program, which consists of these items, and nothing is told against its names and where its statements stand
pub record Accepted (text : List ℕ) (items : List Item) : Type 0 where
  pub tokens : List Kind
  pub spelled : IsSpelled text tokens items
  pub fits : Fits items

-- the text is a program but for its names and where its statements stand, and of what is told against these this is the first
abbrev pub DoesNotFit : RefusalCode → List ℕ → Type 0
DoesNotFit code text = (tokens : List Kind) × (items : List Item) × IsSpelled text tokens items × (first_refusal items ≡ Some code)

-- the text is a program but for its EREs and its names, and an ERE is refused
abbrev pub HasBadEre : RefusalCode → List ℕ → Type 0
HasBadEre code text =
    (tokens : List Kind) × HasTokens text tokens
    × ((items : List Item) × IsProgram tokens items × (height_of_program items ≤ max_height)) × RefusesEre code tokens

-- why a text is refused with this code: the first of these that holds
abbrev pub RefusedFor : RefusalCode → List ℕ → Type 0
RefusedFor ProgramTooLong text = longest_text < length text
RefusedFor UnexpectedByte text = (length text ≤ longest_text) × Breaks UnexpectedByte text
RefusedFor OpenString text = (length text ≤ longest_text) × Breaks OpenString text
RefusedFor OpenPattern text = (length text ≤ longest_text) × Breaks OpenPattern text
RefusedFor EscapeRefused text = (length text ≤ longest_text) × Breaks EscapeRefused text
RefusedFor NumberRefused text = (length text ≤ longest_text) × Breaks NumberRefused text
RefusedFor NotAProgram text = (tokens : List Kind) × HasTokens text tokens × ((items : List Item) → IsProgram tokens items → ⊥)
RefusedFor NestedTooDeep text = (tokens : List Kind) × HasTokens text tokens × ((items : List Item) × IsProgram tokens items × (max_height < height_of_program items))
RefusedFor PatternIllFormed text = HasBadEre PatternIllFormed text
RefusedFor PatternCountRefused text = HasBadEre PatternCountRefused text
RefusedFor PatternTooLarge text = HasBadEre PatternTooLarge text
RefusedFor UnknownFunction text = DoesNotFit UnknownFunction text
RefusedFor DefinedTwice text = DoesNotFit DefinedTwice text
RefusedFor TooManyArguments text = DoesNotFit TooManyArguments text
RefusedFor ParameterRefused text = DoesNotFit ParameterRefused text
RefusedFor StatementOutOfPlace text = DoesNotFit StatementOutOfPlace text
RefusedFor NameLeftOut text = DoesNotFit NameLeftOut text
RefusedFor FunctionAsVariable text = DoesNotFit FunctionAsVariable text
RefusedFor ArrayAndScalar text = DoesNotFit ArrayAndScalar text
-- of growths that are refused nothing is said here
RefusedFor OutOfMemory text = Unit {0}
