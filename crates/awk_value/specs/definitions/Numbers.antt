-- The number that a text spells. A number is written as an optional sign and digits; blanks
-- may stand around it (POSIX awk, Expressions in awk: strings, numbers and numeric strings).
use Rattle.std.specs.Prelude.{ℕ, ◌+◌, ◌-◌, ◌*◌, Bool, true, false, ◌&&◌, ◌||◌, ℤ, pos, neg_ℤ, ◌==◌, if◌then◌else◌, List, [], ◌∷◌, length, Result, Option, Some, None}
use Rattle.std.specs.Char.{is_ascii_digit}
use Rattle.awk_value.specs.declared.fault.ValueFault.{ValueFault}
use Rattle.awk_value.specs.definitions.Arithmetic.{is_in_range, range_checked}

-- a space, a tab or a newline
abbrev pub is_blank_or_newline : ℕ → Bool
is_blank_or_newline b = (b == 32 || b == 9) || b == 10

-- a plus or a minus
abbrev pub is_sign : ℕ → Bool
is_sign b = b == 43 || b == 45

abbrev pub is_empty : List ℕ → Bool
is_empty text = length text == 0

-- what follows the blanks in front
abbrev pub after_blanks : List ℕ → List ℕ
after_blanks [] = []
after_blanks (b ∷ bs) = if is_blank_or_newline b then after_blanks bs else b ∷ bs

-- a minus stands in front
abbrev pub has_minus : List ℕ → Bool
has_minus [] = false
has_minus (b ∷ bs) = b == 45

-- what follows the sign in front, if there is one
abbrev pub after_sign : List ℕ → List ℕ
after_sign [] = []
after_sign (b ∷ bs) = if is_sign b then bs else b ∷ bs

-- a digit stands in front
abbrev pub has_digit : List ℕ → Bool
has_digit [] = false
has_digit (b ∷ bs) = is_ascii_digit b

-- the value of the digits in front, read on from digits of the value n
abbrev pub digits_value : ℕ → List ℕ → ℕ
digits_value n [] = n
digits_value n (b ∷ bs) = if is_ascii_digit b then digits_value (n * 10 + (b - 48)) bs else n

-- what follows the digits in front
abbrev pub after_digits : List ℕ → List ℕ
after_digits [] = []
after_digits (b ∷ bs) = if is_ascii_digit b then after_digits bs else b ∷ bs

-- the number of this sign and size
abbrev pub signed_number : Bool → ℕ → ℤ
signed_number true size = neg_ℤ (pos size)
signed_number false size = pos size

-- the digits of a number, behind its blanks and its sign
abbrev pub digits_of : List ℕ → List ℕ
digits_of text = after_sign (after_blanks text)

-- the number that a text begins with: blanks, an optional sign, as many digits as follow; 0
-- where none follow
abbrev pub spelled_number : List ℕ → ℤ
spelled_number text = signed_number (has_minus (after_blanks text)) (digits_value 0 (digits_of text))

-- the number of a text
abbrev pub text_number : List ℕ → Result ℤ ValueFault
text_number text = range_checked (spelled_number text)

-- the text is a number and nothing else: blanks, an optional sign, one or more digits, blanks
abbrev pub is_number_text : List ℕ → Bool
is_number_text text = has_digit (digits_of text) && is_empty (after_blanks (after_digits (digits_of text)))

-- the number of a numeric text: one that is a number and nothing else, and in range
abbrev pub numeric_text : List ℕ → Option ℤ
numeric_text text =
    if is_number_text text && is_in_range (spelled_number text) then Some (spelled_number text) else None
