-- The tokens of a pattern, and how a text is written in them (XBD 9.4).
use Rattle.std.specs.Prelude.{◌≡◌, ℕ, ◌+◌, ◌-◌, ◌*◌, Bool, true, false, ◌&&◌, not, ◌==◌, List, [], ◌∷◌, ◌++◌, codes}
use Rattle.awk_ere.specs.definitions.Tree.{Class, class_of, Count, star as many, some as some_of, option as option_of, exactly as exactly_of, at_least as at_least_of, between as between_of}
use Rattle.awk_ere.specs.definitions.Escapes.{is_digit, among, Escape, escape_bytes, escape_value, escape_fits}
use Rattle.awk_ere.specs.definitions.Brackets.{Bracket, bracket_bytes, bracket_fits, bracket_has}

abbrev pub each : (ℕ → Bool) → List ℕ → Bool
each p [] = true
each p (b ∷ bs) = p b && each p bs

abbrev pub some_bytes : List ℕ → Bool
some_bytes [] = false
some_bytes (b ∷ bs) = true

-- ---- what reads one byte

pub data Atom : Type 0 where
  ordinary : ℕ → Atom
  any : Atom
  escape : Escape → Atom
  bracket : Bracket → Atom

-- \ ^ $ . [ ( ) | * + ? {
abbrev pub is_special : ℕ → Bool
is_special b = among (92 ∷ codes "[{.^$()|*+?") b

abbrev pub atom_bytes : Atom → List ℕ
atom_bytes (ordinary b) = b ∷ []
atom_bytes any = 46 ∷ []
atom_bytes (escape e) = 92 ∷ escape_bytes e
atom_bytes (bracket k) = 91 ∷ bracket_bytes k

abbrev pub atom_fits : Atom → List ℕ → Bool
atom_fits (ordinary b) rest = not (is_special b)
atom_fits any rest = true
atom_fits (escape e) rest = escape_fits e rest
atom_fits (bracket k) rest = bracket_fits k rest

abbrev pub atom_class : Atom → Class
atom_class (ordinary b) = class_of (λ x. x == b)
atom_class any = class_of (λ x. true)
atom_class (escape e) = class_of (λ x. x == escape_value e)
atom_class (bracket k) = class_of (bracket_has k)

-- ---- repeats: a count is a run of digits

pub data Repeat : Type 0 where
  star : Repeat
  plus : Repeat
  option : Repeat
  exactly : List ℕ → Repeat
  at_least : List ℕ → Repeat
  between : List ℕ → List ℕ → Repeat

abbrev pub is_number : List ℕ → Bool
is_number ds = some_bytes ds && each is_digit ds

-- the value of the digits behind a value
abbrev pub number : ℕ → List ℕ → ℕ
number n [] = n
number n (d ∷ ds) = number (10 * n + (d - 48)) ds

abbrev pub repeat_bytes : Repeat → List ℕ
repeat_bytes star = 42 ∷ []
repeat_bytes plus = 43 ∷ []
repeat_bytes option = 63 ∷ []
repeat_bytes (exactly ds) = 123 ∷ (ds ++ 125 ∷ [])
repeat_bytes (at_least ds) = 123 ∷ (ds ++ 44 ∷ 125 ∷ [])
repeat_bytes (between ds es) = 123 ∷ (ds ++ 44 ∷ (es ++ 125 ∷ []))

abbrev pub repeat_fits : Repeat → Bool
repeat_fits star = true
repeat_fits plus = true
repeat_fits option = true
repeat_fits (exactly ds) = is_number ds
repeat_fits (at_least ds) = is_number ds
repeat_fits (between ds es) = is_number ds && is_number es

abbrev pub count_of : Repeat → Count
count_of star = many
count_of plus = some_of
count_of option = option_of
count_of (exactly ds) = exactly_of (number 0 ds)
count_of (at_least ds) = at_least_of (number 0 ds)
count_of (between ds es) = between_of (number 0 ds) (number 0 es)

-- ---- tokens

pub data Token : Type 0 where
  atom : Atom → Token
  at_start : Token
  at_end : Token
  opening : Token
  closing : Token
  bar : Token
  again : Repeat → Token

abbrev pub token_bytes : Token → List ℕ
token_bytes (atom a) = atom_bytes a
token_bytes at_start = 94 ∷ []
token_bytes at_end = 36 ∷ []
token_bytes opening = 40 ∷ []
token_bytes closing = 41 ∷ []
token_bytes bar = 124 ∷ []
token_bytes (again r) = repeat_bytes r

abbrev pub token_fits : Token → List ℕ → Bool
token_fits (atom a) rest = atom_fits a rest
token_fits at_start rest = true
token_fits at_end rest = true
token_fits opening rest = true
token_fits closing rest = true
token_fits bar rest = true
token_fits (again r) rest = repeat_fits r

abbrev pub text_of : List Token → List ℕ
text_of [] = []
text_of (w ∷ ws) = token_bytes w ++ text_of ws

-- each token may stand before the bytes of the tokens behind it
abbrev pub tokens_fit : List Token → Bool
tokens_fit [] = true
tokens_fit (w ∷ ws) = token_fits w (text_of ws) && tokens_fit ws

-- the tokens spell the text
abbrev pub AreSpelt : List Token → List ℕ → Type 0
AreSpelt ws text = (text ≡ text_of ws) × (tokens_fit ws ≡ true)
