-- The escapes of a pattern: what stands behind a backslash (XBD 9.4 and awk, Lexical Conventions).
use Rattle.std.specs.Prelude.{ℕ, ◌+◌, ◌-◌, ◌*◌, Bool, false, ◌&&◌, ◌||◌, not, nat_le, ◌==◌, List, [], ◌∷◌, codes, if◌then◌else◌}

abbrev pub within : ℕ → ℕ → ℕ → Bool
within low high b = nat_le low b && nat_le b high

abbrev pub is_octal : ℕ → Bool
is_octal b = within 48 55 b

abbrev pub is_digit : ℕ → Bool
is_digit b = within 48 57 b

abbrev pub is_letter : ℕ → Bool
is_letter b = within 65 90 b || within 97 122 b

abbrev pub among : List ℕ → ℕ → Bool
among [] b = false
among (x ∷ xs) b = b == x || among xs b

-- the next byte passes
abbrev pub starts : (ℕ → Bool) → List ℕ → Bool
starts p [] = false
starts p (b ∷ bs) = p b

abbrev pub names_byte : ℕ → Bool
names_byte b = among (codes "abfnrtv") b

-- \a \b \f \n \r \t \v
abbrev pub named : ℕ → ℕ
named b =
    if b == 97 then 7 else (
    if b == 98 then 8 else (
    if b == 102 then 12 else (
    if b == 110 then 10 else (
    if b == 114 then 13 else (
    if b == 116 then 9 else 11)))))

-- a letter that names a byte, one to three octal digits, or a byte that stands for itself
pub data Escape : Type 0 where
  letter : ℕ → Escape
  octal1 : ℕ → Escape
  octal2 : ℕ → ℕ → Escape
  octal3 : ℕ → ℕ → ℕ → Escape
  itself : ℕ → Escape

-- the value of three octal digits
abbrev pub octal : ℕ → ℕ → ℕ → ℕ
octal a b c = 64 * (a - 48) + (8 * (b - 48) + (c - 48))

abbrev pub escape_bytes : Escape → List ℕ
escape_bytes (letter b) = b ∷ []
escape_bytes (octal1 a) = a ∷ []
escape_bytes (octal2 a b) = a ∷ b ∷ []
escape_bytes (octal3 a b c) = a ∷ b ∷ c ∷ []
escape_bytes (itself b) = b ∷ []

abbrev pub escape_value : Escape → ℕ
escape_value (letter b) = named b
escape_value (octal1 a) = octal 48 48 a
escape_value (octal2 a b) = octal 48 a b
escape_value (octal3 a b c) = octal a b c
escape_value (itself b) = b

-- the escape may stand before the rest: octal digits are the most that stand there
abbrev pub escape_fits : Escape → List ℕ → Bool
escape_fits (letter b) rest = names_byte b
escape_fits (octal1 a) rest = is_octal a && not (starts is_octal rest)
escape_fits (octal2 a b) rest = is_octal a && (is_octal b && not (starts is_octal rest))
escape_fits (octal3 a b c) rest = is_octal a && (is_octal b && (is_octal c && nat_le (octal a b c) 255))
escape_fits (itself b) rest = not (is_letter b || is_digit b)
