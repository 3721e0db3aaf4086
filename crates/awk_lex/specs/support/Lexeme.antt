-- The lexeme that a text begins with, as the scanner finds it.
use Rattle.std.specs.Prelude.{ℕ, zero, suc, ◌+◌, Bool, true, false, not, ◌&&◌, ◌==◌, if◌then◌else◌, List, [], ◌∷◌, length, take, drop, pos, Option, Some, None, Result, Ok, Err, take_while, slice_index, unwrap_or}
use Rattle.std.specs.List.{prefix_len}
use Rattle.std.specs.Char.{is_ascii_digit}
use Rattle.std.specs.Str.Parse.{digits_value}
use Rattle.std.specs.Option.{option_map}
use Rattle.awk_lex.specs.definitions.Escapes.{unescaped}
use Rattle.awk_lex.specs.definitions.Tables.{reserved, punctuators, divisions, kind_in}
use Rattle.awk_lex.specs.definitions.Words.{is_name_start, is_word_byte, opens, is_allowed}
use Rattle.awk_lex.specs.definitions.Lexes.{is_space_or_tab, is_no_newline}
use Rattle.awk_lex.specs.declared.token.Kind.{Kind}
use Rattle.awk_lex.specs.declared.token.Kind.TheVariants.{Number, String, Ere, Name, Called, Newline}
use Rattle.awk_lex.specs.declared.refusal.RefusalCode.{RefusalCode}
use Rattle.awk_lex.specs.declared.refusal.RefusalCode.TheVariants.{UnexpectedByte, OpenString, EscapeRefused, OpenPattern, NumberRefused}
use Rattle.awk_lex.specs.declared.lexeme.Lexeme.{Lexeme}
use Rattle.awk_lex.specs.declared.lexeme.Lexeme.TheVariants.{Gap, Token, Fault}

-- how many bytes a backslash in front hides with itself
abbrev pub hidden_len : List ℕ → ℕ
hidden_len [] = 0
hidden_len (b ∷ bs) = if b == 10 then 2 else 0

-- how many bytes in front are one part of a gap
abbrev pub gap_len : List ℕ → ℕ
gap_len [] = 0
gap_len (b ∷ bs) =
    if is_space_or_tab b then 1
    else (if b == 92 then hidden_len bs
    else (if b == 35 then prefix_len is_no_newline (b ∷ bs) else 0))

-- how many bytes stand before the next delimiter, by whether a backslash stands directly before them
abbrev pub body_len : ℕ → Bool → List ℕ → Option ℕ
body_len delimiter behind [] = None
body_len delimiter behind (b ∷ bs) =
    if b == 10 then None
    else (if b == delimiter && not behind then Some 0 else option_map suc (body_len delimiter (b == 92 && not behind) bs))

pub record Found : Type 0 where
  pub kind : Kind
  pub len : ℕ

abbrev pub found : Kind → ℕ → Result Found RefusalCode
found k n = Ok (record { kind = k; len = n })

abbrev pub found_number : List ℕ → Result Found RefusalCode
found_number w = found (Number (pos (digits_value 10 w))) (length w)

abbrev pub named : List ℕ → List ℕ → Kind
named w rest = if opens rest then Called w else Name w

abbrev pub kind_of : List ℕ → List ℕ → Kind
kind_of w rest = unwrap_or (kind_in reserved w) (named w rest)

abbrev pub found_word : List ℕ → List ℕ → Result Found RefusalCode
found_word w rest = found (kind_of w rest) (length w)

abbrev pub closed_string : ℕ → Option (List ℕ) → Result Found RefusalCode
closed_string len None = Err EscapeRefused
closed_string len (Some bytes) = found (String bytes) (len + 2)

-- the string whose body begins here
abbrev pub found_string : List ℕ → Option ℕ → Result Found RefusalCode
found_string text None = Err OpenString
found_string text (Some len) = closed_string len (unescaped (take len text))

-- the ERE whose body begins here
abbrev pub found_ere : List ℕ → Option ℕ → Result Found RefusalCode
found_ere text None = Err OpenPattern
found_ere text (Some len) = found (Ere (take len text)) (len + 2)

abbrev pub short_punctuator : Option Kind → Result Found RefusalCode
short_punctuator None = Err UnexpectedByte
short_punctuator (Some k) = found k 1

abbrev pub long_punctuator : Option Kind → Option Kind → Result Found RefusalCode
long_punctuator None short = short_punctuator short
long_punctuator (Some k) short = found k 2

-- the longest punctuator of a table
abbrev pub punctuator_at : List (List ℕ × Kind) → List ℕ → Result Found RefusalCode
punctuator_at rows [] = Err UnexpectedByte
punctuator_at rows (a ∷ []) = short_punctuator (kind_in rows (a ∷ []))
punctuator_at rows (a ∷ b ∷ bs) = long_punctuator (kind_in rows (a ∷ b ∷ [])) (kind_in rows (a ∷ []))

abbrev pub slash_at : Bool → List ℕ → Result Found RefusalCode
slash_at true text = punctuator_at divisions text
slash_at false text = found_ere (drop 1 text) (body_len 47 false (drop 1 text))

-- the string, the ERE or the punctuator in front
abbrev pub other_at : Bool → List ℕ → Result Found RefusalCode
other_at divides text =
    if slice_index text 0 == 34 then found_string (drop 1 text) (body_len 34 false (drop 1 text))
    else (if slice_index text 0 == 47 then slash_at divides text else punctuator_at punctuators text)

-- the longest spelling in front and its kind, or why there is none
abbrev pub token_at : Bool → List ℕ → Result Found RefusalCode
token_at divides text =
    if is_name_start (slice_index text 0) then found_word (take_while is_word_byte text) (drop (prefix_len is_word_byte text) text)
    else (if is_ascii_digit (slice_index text 0) then found_number (take_while is_ascii_digit text) else other_at divides text)

abbrev pub token_lexeme : List ℕ → Result Found RefusalCode → Lexeme
token_lexeme text (Err code) = Fault code
token_lexeme text (Ok f) = if is_allowed f.kind (drop f.len text) then Token f.kind f.len else Fault NumberRefused

abbrev pub gap_lexeme : Bool → List ℕ → ℕ → Lexeme
gap_lexeme divides text zero = token_lexeme text (token_at divides text)
gap_lexeme divides text (suc n) = Gap (suc n)

abbrev pub lexeme_of : Bool → List ℕ → Lexeme
lexeme_of divides text = gap_lexeme divides text (gap_len text)

-- the token is a newline
abbrev pub is_newline : Kind → Bool
is_newline Newline = true
is_newline _ = false
