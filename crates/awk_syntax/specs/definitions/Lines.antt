-- On which line tokens that are no program are refused.
use Rattle.std.specs.Prelude.{◌≡◌, ◌⊎◌, ℕ, List, [], ◌∷◌, ◌++◌}
use Rattle.awk_lex.specs.Told.{kinds_of}
use Rattle.awk_lex.specs.declared.token.Kind.{Kind}
use Rattle.awk_lex.specs.declared.token.Token.{Token}
use Rattle.awk_lex.specs.declared.refusal.RefusalCode.{RefusalCode}
use Rattle.awk_lex.specs.declared.refusal.RefusalCode.TheVariants.{NotAProgram, NestedTooDeep}
use Rattle.awk_grammar.specs.Tree.{Item}
use Rattle.awk_grammar.specs.Spelling.{IsProgram}
use Rattle.awk_syntax.specs.support.Stopped.{StopsAtToken, StopsAtEnd}

-- no program begins with these tokens, whatever follows them
abbrev pub NoProgramBegins : List Kind → Type 0
NoProgramBegins front = (more : List Kind) (items : List Item) → IsProgram (front ++ more) items → ⊥

-- the first token that the parser can't take begins on this line, and no program begins with the tokens up to it
pub record IsStopped (line : ℕ) (tokens : List Token) : Type 0 where
  pub stop : StopsAtToken line tokens
  pub none : NoProgramBegins (kinds_of (stop.before ++ stop.token ∷ []))

-- the line of an S1, and of an S2
abbrev pub TellsLine : RefusalCode → (line : ℕ) → List Token → Type 0
-- no program begins with the tokens up to one on this line; or the text ended too early, and this is the line of its last token
TellsLine NotAProgram line tokens = IsStopped line tokens ⊎ StopsAtEnd line tokens
TellsLine NestedTooDeep line tokens = line ≡ 1
TellsLine code line tokens = Unit {0}
