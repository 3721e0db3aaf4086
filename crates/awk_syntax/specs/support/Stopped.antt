-- Where the parser over lists stops: at the first token that it can't take, or behind the last one.
use Rattle.std.specs.Prelude.{ℕ, ◌≡◌, ◌≢◌, ◌⊎◌, List, [], ◌∷◌, ◌++◌}
use Rattle.awk_lex.specs.Told.{kinds_of}
use Rattle.awk_lex.specs.declared.token.Kind.{Kind}
use Rattle.awk_lex.specs.declared.token.Token.{Token}
use Rattle.awk_lex.specs.declared.refusal.RefusalCode.{RefusalCode}
use Rattle.awk_lex.specs.declared.refusal.RefusalCode.TheVariants.{NotAProgram, NestedTooDeep}
use Rattle.awk_grammar.specs.definitions.Height.{max_height}
use Rattle.awk_grammar.specs.support.Parser.{ParserState, Failed, start, step}

-- where it stands behind these tokens
abbrev pub state_behind : ParserState → List Kind → ParserState
state_behind x [] = x
state_behind x (y ∷ ts) = state_behind (step max_height x y) ts

abbrev pub reached : List Kind → ParserState
reached ts = state_behind (start max_height) ts

-- the line of the last token, or 1 if there is none
abbrev pub last_line : List Token → ℕ
last_line [] = 1
last_line (x ∷ []) = x.line
last_line (x ∷ tokens) = last_line tokens

-- the first token that can't be taken begins on this line
pub record StopsAtToken (line : ℕ) (tokens : List Token) : Type 0 where
  pub before : List Token
  pub token : Token
  pub after : List Token
  pub stand : tokens ≡ before ++ token ∷ after
  pub taken : reached (kinds_of before) ≢ Failed
  pub refused : reached (kinds_of (before ++ token ∷ [])) ≡ Failed
  pub begins : line ≡ token.line

-- all tokens are taken, and the last one begins on this line
pub record StopsAtEnd (line : ℕ) (tokens : List Token) : Type 0 where
  pub taken : reached (kinds_of tokens) ≢ Failed
  pub begins : line ≡ last_line tokens

-- on which line tokens are refused
abbrev pub Stops : RefusalCode → (line : ℕ) → List Token → Type 0
Stops NotAProgram line tokens = StopsAtToken line tokens ⊎ StopsAtEnd line tokens
Stops NestedTooDeep line tokens = line ≡ 1
Stops code line tokens = Unit {0}
