-- What a loop over the lexemes of a text leaves.
use Rattle.std.specs.Prelude.{ℕ, ◌≤◌, List, All, length}
use Rattle.awk_lex.specs.definitions.Lexes.{Lexes}
use Rattle.awk_lex.specs.definitions.Told.{kinds_of, StandsAt, InTurn}
use Rattle.awk_lex.specs.declared.token.Token.{Token}

-- these are the tokens of the text, each where it stands
pub record AreTokens (text : List ℕ) (tokens : List Token) : Type 0 where
  pub lexes : Lexes (kinds_of tokens) text
  pub in_turn : InTurn text 0 tokens (length text)
  pub within : All (λ token. (token.start ≤ token.end) × (token.end ≤ length text)) tokens
  pub placed : All (StandsAt text) tokens
