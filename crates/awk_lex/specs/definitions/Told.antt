-- What reading the tokens of a text answers.
use Rattle.std.specs.Prelude.{◌≡◌, ◌⊎◌, ℕ, ◌<◌, ◌≤◌, ◌+◌, ◌==◌, Bool, false, List, [], ◌∷◌, map, count_by, length, take, drop, Result, Ok, Err}
use Rattle.std.specs.Global.{Vec}
use Rattle.awk_lex.specs.definitions.Lexes.{Skips, Stands, Reads, divides_behind, Fault, Breaks}
use Rattle.awk_lex.specs.definitions.Refused.{IsOutOfMemory}
use Rattle.awk_lex.specs.declared.token.Kind.{Kind}
use Rattle.awk_lex.specs.declared.token.Token.{Token}
use Rattle.awk_lex.specs.declared.refusal.RefusalCode.{RefusalCode}
use Rattle.awk_lex.specs.declared.refusal.RefusalCode.TheVariants.{ProgramTooLong}
use Rattle.awk_lex.specs.declared.refusal.Refusal.{Refusal}
use Rattle.awk_lex.specs.declared.lexer.TheConstants.{LIMIT}

-- what the tokens are, without their lines and places
abbrev pub kinds_of : List Token → List Kind
kinds_of = map (λ token. token.kind)

-- the line of a place, from 1: one more than the newlines before it
abbrev pub line_at : List ℕ → ℕ → ℕ
line_at text place = 1 + count_by (λ b. b == 10) (take place text)

-- the token stands on its stretch, whose line is its line
pub record StandsAt (text : List ℕ) (token : Token) : Type 0 where
  pub divides : Bool
  pub stands : Stands divides token.kind (drop token.start text) (drop token.end text)
  pub line : token.line ≡ line_at text token.start

-- what stands from one place of the text to another is a gap, which may be empty
pub record GapBetween (text : List ℕ) (from to : ℕ) : Type 0 where
  pub ordered : from ≤ to
  pub skips : Skips (drop from text) (drop to text)

-- The stretches of the tokens stand in turn, none of them empty, from one place of the text to another, with nothing
-- but gaps before, between and behind them.
abbrev pub InTurn : List ℕ → ℕ → List Token → ℕ → Type 0
InTurn text place [] end = GapBetween text place end
InTurn text place (t ∷ ts) end = GapBetween text place t.start × (t.start < t.end) × InTurn text t.end ts end

-- the text is gaps and tokens up to a place on the refusal's line, and there stands its fault
pub record FaultStands (text : List ℕ) (refusal : Refusal) : Type 0 where
  pub tokens : List Kind
  pub place : ℕ
  pub reads : Reads false tokens text (drop place text)
  pub fault : Fault (divides_behind false tokens) refusal.code (drop place text)
  pub line : refusal.line ≡ line_at text place

-- these tokens are answered, or memory was refused
abbrev pub GivesOnly : Result (Vec Token) Refusal → List Kind → Type 0
GivesOnly (Ok tokens) ts = kinds_of tokens.items ≡ ts
GivesOnly (Err refusal) ts = IsOutOfMemory refusal

-- the code that a text is refused with: it is too long, or else breaks at its leftmost fault
abbrev pub Refuses : RefusalCode → List ℕ → Type 0
Refuses ProgramTooLong text = LIMIT < length text
Refuses code text = (length text ≤ LIMIT) × Breaks code text

-- this code is answered, or memory was refused
abbrev pub RefusesOnly : Result (Vec Token) Refusal → RefusalCode → Type 0
RefusesOnly (Ok tokens) code = ⊥
RefusesOnly (Err refusal) code = IsOutOfMemory refusal ⊎ (refusal.code ≡ code)
