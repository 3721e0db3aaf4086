-- What a program text is as tokens, and where it breaks (POSIX awk, Lexical Conventions).
use Rattle.std.specs.Prelude.{◌≡◌, ◌≢◌, ℕ, Bool, true, false, not, ◌||◌, ◌==◌, List, [], ◌∷◌, ◌++◌, ℤ, None, ◌⊎◌}
use Rattle.std.specs.List.{list_all}
use Rattle.awk_lex.specs.definitions.Escapes.{unescaped}
use Rattle.awk_lex.specs.definitions.Words.{Body, Writes, Longest, suits, is_allowed, divides_after}
use Rattle.awk_lex.specs.declared.token.Kind.{Kind}
use Rattle.awk_lex.specs.declared.token.Kind.TheVariants.{Number}
use Rattle.awk_lex.specs.declared.refusal.RefusalCode.{RefusalCode}
use Rattle.awk_lex.specs.declared.refusal.RefusalCode.TheVariants.{UnexpectedByte, OpenString, EscapeRefused, OpenPattern, NumberRefused}

-- a space or a tab
abbrev pub is_space_or_tab : ℕ → Bool
is_space_or_tab b = b == 32 || b == 9

abbrev pub is_no_newline : ℕ → Bool
is_no_newline b = not (b == 10)

-- the text ends, or a newline stands in front
abbrev pub EndsLine : List ℕ → Type 0
EndsLine [] = Unit {0}
EndsLine (b ∷ bs) = b ≡ 10

-- The bytes are a gap, where the rest stands behind them: spaces, tabs, and newlines that a backslash
-- hides, and last perhaps a comment, which goes up to the newline or the end of the text.
pub data Gap (rest : List ℕ) : List ℕ → Type 0 where
  none : Gap rest []
  blank : {b : ℕ} {gap : List ℕ} → is_space_or_tab b ≡ true → Gap rest gap → Gap rest (b ∷ gap)
  hidden : {gap : List ℕ} → Gap rest gap → Gap rest (92 ∷ 10 ∷ gap)
  comment : {bytes : List ℕ} → list_all is_no_newline bytes ≡ true → EndsLine rest → Gap rest (35 ∷ bytes)

-- a gap stands in front of the rest
pub record Skips (text rest : List ℕ) : Type 0 where
  pub gap : List ℕ
  pub is : text ≡ gap ++ rest
  pub is_gap : Gap rest gap

-- the token stands in front of the rest: the longest spelling at its place, and what stands behind suits it
pub record Stands (divides : Bool) (t : Kind) (text rest : List ℕ) : Type 0 where
  pub word : List ℕ
  pub is : text ≡ word ++ rest
  pub writes : Writes divides t word
  pub longest : Longest divides word rest
  pub suited : suits t rest ≡ true

-- The text up to the rest is gaps and tokens in turn, each token the longest spelling at its place. Whether a slash
-- divides, each token says for the next one.
abbrev pub Reads : Bool → List Kind → List ℕ → List ℕ → Type 0
Reads divides [] text rest = Skips text rest
Reads divides (t ∷ ts) text rest =
    (place after : List ℕ) × Skips text place × Stands divides t place after × (is_allowed t after ≡ true)
    × Reads (divides_after t) ts after rest

-- The text is gaps and tokens in turn. A slash in front of all tokens opens an ERE.
abbrev pub Lexes : List Kind → List ℕ → Type 0
Lexes ts text = Reads false ts text []

-- whether a slash divides behind these tokens, by whether it does before them
abbrev pub divides_behind : Bool → List Kind → Bool
divides_behind divides [] = divides
divides_behind divides (t ∷ ts) = divides_behind (divides_after t) ts

-- no gap, no token, no string and no ERE begins here
pub record BeginsNothing (divides : Bool) (text : List ℕ) : Type 0 where
  pub some : text ≢ []
  pub no_gap : (gap rest : List ℕ) → text ≡ gap ++ rest → Gap rest gap → gap ≡ []
  pub no_token : (t : Kind) (word rest : List ℕ) → text ≡ word ++ rest → Writes divides t word → ⊥
  pub no_string : (rest : List ℕ) → text ≡ 34 ∷ rest → ⊥
  pub no_ere : (rest : List ℕ) → text ≡ 47 ∷ rest → ⊥

-- the line ends in front, or directly behind a backslash
abbrev pub BreaksOff : List ℕ → Type 0
BreaksOff rest = EndsLine rest ⊎ ((end : List ℕ) × (rest ≡ 92 ∷ end) × EndsLine end)

-- the delimiter stands here, and its line or the text ends before the next one
pub record IsOpen (delimiter : ℕ) (text : List ℕ) : Type 0 where
  pub body : List ℕ
  pub rest : List ℕ
  pub is : text ≡ delimiter ∷ (body ++ rest)
  pub is_body : Body delimiter body
  pub breaks_off : BreaksOff rest

-- a string stands here whose escapes stand for no bytes
pub record IsBadString (text : List ℕ) : Type 0 where
  pub body : List ℕ
  pub rest : List ℕ
  pub is : text ≡ 34 ∷ (body ++ 34 ∷ rest)
  pub is_body : Body 34 body
  pub refused : unescaped body ≡ None

-- a number stands here that is too large or that goes on with a letter, an underscore or a point
pub record IsBadNumber (divides : Bool) (text : List ℕ) : Type 0 where
  pub value : ℤ
  pub after : List ℕ
  pub stands : Stands divides (Number value) text after
  pub refused : is_allowed (Number value) after ≡ false

-- the fault at a place, where a slash divides or else opens an ERE
abbrev pub Fault : Bool → RefusalCode → List ℕ → Type 0
Fault divides UnexpectedByte text = BeginsNothing divides text
Fault divides OpenString text = IsOpen 34 text
Fault divides EscapeRefused text = IsBadString text
Fault divides OpenPattern text = (divides ≡ false) × IsOpen 47 text
Fault divides NumberRefused text = IsBadNumber divides text
Fault divides _ text = ⊥

-- The text is gaps and tokens up to a place, and there stands a fault: the leftmost, since each token before it
-- stands whole.
pub record Breaks (code : RefusalCode) (text : List ℕ) : Type 0 where
  pub tokens : List Kind
  pub place : List ℕ
  pub reads : Reads false tokens text place
  pub fault : Fault (divides_behind false tokens) code place
