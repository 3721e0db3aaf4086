-- How the tokens of a program are spelled (POSIX awk, Lexical Conventions).
use Rattle.std.specs.Prelude.{◌≡◌, ℕ, ◌^◌, Bool, true, false, ◌&&◌, ◌||◌, not, ◌==◌, List, [], ◌∷◌, ◌++◌, pos, int_lt, bytes_eq, Some, is_some}
use Rattle.std.specs.List.{list_all, list_any}
use Rattle.std.specs.Char.{is_ascii_digit, is_ascii_alphabetic}
use Rattle.std.specs.Str.Parse.{digits_value}
use Rattle.awk_lex.specs.definitions.Escapes.{unescaped}
use Rattle.awk_lex.specs.definitions.Tables.{reserved, left_out, punctuators, divisions, kind_in}
use Rattle.awk_lex.specs.declared.token.Kind.{Kind}
use Rattle.awk_lex.specs.declared.token.Kind.TheVariants.{Number, String, Ere, Name, Called, BuiltIn, Increment, CloseBracket, CloseParenthesis}

-- a letter or an underscore
abbrev pub is_name_start : ℕ → Bool
is_name_start b = is_ascii_alphabetic b || b == 95

-- a letter, an underscore or a digit
abbrev pub is_word_byte : ℕ → Bool
is_word_byte b = is_name_start b || is_ascii_digit b

-- letters, digits and underscores, with no digit first
abbrev pub is_word : List ℕ → Bool
is_word [] = false
is_word (b ∷ bs) = is_name_start b && list_all is_word_byte bs

-- one digit or more
abbrev pub is_digits : List ℕ → Bool
is_digits [] = false
is_digits (b ∷ bs) = list_all is_ascii_digit (b ∷ bs)

-- a keyword or the name of a built-in function
abbrev pub is_reserved : List ℕ → Bool
is_reserved w = is_some (kind_in reserved w)

abbrev pub is_left_out : List ℕ → Bool
is_left_out w = list_any (bytes_eq w) left_out

-- a byte that is no delimiter, no backslash and no newline
abbrev pub is_plain : ℕ → ℕ → Bool
is_plain delimiter b = not (b == delimiter || (b == 92 || b == 10))

-- The bytes may stand between two delimiters, the quotes of a string or the slashes of an ERE: no newline and no
-- unescaped delimiter is among them, and the last isn't a backslash that escapes what follows.
pub data Body (delimiter : ℕ) : List ℕ → Type 0 where
  none : Body delimiter []
  plain : {b : ℕ} {body : List ℕ} → is_plain delimiter b ≡ true → Body delimiter body → Body delimiter (b ∷ body)
  escaped : {b : ℕ} {body : List ℕ} → not (b == 10) ≡ true → Body delimiter body → Body delimiter (92 ∷ b ∷ body)

-- The bytes spell the token, where a slash divides or else opens an ERE. What a name is called, the bytes behind it
-- say (`suits`).
pub data Writes (divides : Bool) : Kind → List ℕ → Type 0 where
  number : {w : List ℕ} → is_digits w ≡ true → Writes divides (Number (pos (digits_value 10 w))) w
  string : {body bytes : List ℕ} → Body 34 body → unescaped body ≡ Some bytes → Writes divides (String bytes) (34 ∷ body ++ 34 ∷ [])
  ere : {body : List ℕ} → divides ≡ false → Body 47 body → Writes divides (Ere body) (47 ∷ body ++ 47 ∷ [])
  word : {k : Kind} {w : List ℕ} → kind_in reserved w ≡ Some k → Writes divides k w
  name : {w : List ℕ} → is_word w ≡ true → is_reserved w ≡ false → Writes divides (Name w) w
  called : {w : List ℕ} → is_word w ≡ true → is_reserved w ≡ false → Writes divides (Called w) w
  punctuator : {k : Kind} {w : List ℕ} → kind_in punctuators w ≡ Some k → Writes divides k w
  division : {k : Kind} {w : List ℕ} → divides ≡ true → kind_in divisions w ≡ Some k → Writes divides k w

-- where these bytes stand before the rest, no longer spelling of any token stands
abbrev pub Longest : Bool → List ℕ → List ℕ → Type 0
Longest divides w rest = (t : Kind) (x y : List ℕ) → rest ≡ x ++ y → Writes divides t (w ++ x) → x ≡ []

-- a `(` stands in front
abbrev pub opens : List ℕ → Bool
opens [] = false
opens (b ∷ bs) = b == 40

-- the token may stand before the rest: a called name stands directly before a `(`, and any other name doesn't
abbrev pub suits : Kind → List ℕ → Bool
suits (Called w) rest = opens rest
suits (Name w) rest = not (opens rest)
suits _ rest = true

-- a letter, an underscore or a point stands in front
abbrev pub goes_on : List ℕ → Bool
goes_on [] = false
goes_on (b ∷ bs) = is_name_start b || b == 46

-- a number is at most 2^127 - 1, and no letter, underscore or point stands directly behind it
abbrev pub is_allowed : Kind → List ℕ → Bool
is_allowed (Number value) rest = int_lt value (pos (2 ^ 127)) && not (goes_on rest)
is_allowed _ rest = true

-- A slash behind the token divides, since an operand may end there. Behind any other token it opens an ERE (behind a
-- called name none stands).
abbrev pub divides_after : Kind → Bool
divides_after (Number value) = true
divides_after (String bytes) = true
divides_after (Ere body) = true
divides_after (Name w) = true
divides_after (BuiltIn b) = true
divides_after (Increment s) = true
divides_after CloseBracket = true
divides_after CloseParenthesis = true
divides_after _ = false
