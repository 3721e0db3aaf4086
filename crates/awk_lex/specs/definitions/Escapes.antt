-- What a string's bytes stand for. POSIX awk, "Lexical Conventions", the table of escape sequences.
use Rattle.std.specs.Prelude.{ℕ, ◌+◌, ◌-◌, ◌*◌, Bool, ◌&&◌, ◌||◌, ◌==◌, List, [], ◌∷◌, length, take, Option, Some, None, if◌then◌else◌, zero, suc, nat_le, nat_lt}
use Rattle.std.specs.List.{take_while, fold}
use Rattle.std.specs.Option.{option_map, option_and_then}
use Rattle.awk_lex.specs.declared.escapes.Symbol.{Symbol}

-- the byte that a backslash and one byte stand for: a quote, a slash or a backslash itself, and the table's letters
abbrev pub letter : ℕ → Option ℕ
letter byte =
    if byte == 34 || (byte == 47 || byte == 92) then Some byte
    else if byte == 97 then Some 7  -- \a
    else if byte == 98 then Some 8  -- \b
    else if byte == 102 then Some 12  -- \f
    else if byte == 110 then Some 10  -- \n
    else if byte == 114 then Some 13  -- \r
    else if byte == 116 then Some 9  -- \t
    else if byte == 118 then Some 11  -- \v
    else None

abbrev pub is_octal : ℕ → Bool
is_octal byte = nat_le 48 byte && nat_le byte 55

-- the octal digits at the front, three at the most
abbrev pub octal_digits : List ℕ → List ℕ
octal_digits text = take_while is_octal (take 3 text)

abbrev pub octal_value : List ℕ → ℕ
octal_value digits = fold (λ value digit. value * 8 + (digit - 48)) 0 digits

-- a number of so many digits, if it is a byte
abbrev pub octal : (value digits : ℕ) → Option Symbol
octal value digits = if nat_lt value 256 then Some (record { byte = value; behind = digits }) else None

-- what a backslash in front of octal digits stands for
abbrev pub octal_escape : List ℕ → Option Symbol
octal_escape digits = octal (octal_value digits) (length digits)

-- what a backslash stands for, by the text behind it: itself at the end, and else an octal number or a letter's byte
abbrev pub escape : List ℕ → Option Symbol
escape [] = Some (record { byte = 92; behind = 0 })
escape (byte ∷ text) =
    if is_octal byte then octal_escape (octal_digits (byte ∷ text))
    else option_map (λ stands. record { byte = stands; behind = 1 }) (letter byte)

-- the symbol that begins with a byte: what it stands for, and how many of the bytes behind the first it takes
abbrev pub first_symbol : ℕ → List ℕ → Option Symbol
first_symbol byte text = if byte == 92 then escape text else Some (record { byte = byte; behind = 0 })

-- the same of a text whose first bytes, so many, a symbol has taken
abbrev pub unescaped_behind : ℕ → List ℕ → Option (List ℕ)
unescaped_behind taken [] = Some []
unescaped_behind (suc taken) (byte ∷ text) = unescaped_behind taken text
unescaped_behind zero (byte ∷ text) =
    option_and_then (λ first. option_map (λ bytes. first.byte ∷ bytes) (unescaped_behind first.behind text))
    (first_symbol byte text)

-- the bytes that a text's symbols stand for, if each escape is one of the table
abbrev pub unescaped : List ℕ → Option (List ℕ)
unescaped text = unescaped_behind 0 text
