-- The text that a directive gives of a value. POSIX awk, Output Statements (formatted output), after File Format
-- Notation, which calls a directive a conversion specification.
use Rattle.std.specs.Prelude.{ℕ, suc, ◌+◌, ◌-◌, ◌^◌, unsigned_abs, ℤ, pos, negsuc, Bool, true, false, not, ◌&&◌, ◌==◌, nat_le, List, [], ◌∷◌, ◌++◌, length, take, replicate, Option, Some, None, Result, Ok, Err, if◌then◌else◌}
use Rattle.std.specs.Fmt.{digits}
use Rattle.awk_value.specs.Arithmetic.{is_zero}
use Rattle.awk_value.specs.Values.{num_of, str_of}
use Rattle.awk_value.specs.declared.fault.ValueFault.{ValueFault}
use Rattle.awk_value.specs.declared.value.Value.{Value}
use Rattle.awk_value.specs.declared.value.Value.TheVariants.{Nothing, Number, Text as MadeText, Input}
use Rattle.awk_text.specs.declared.format_fault.FormatFault.{FormatFault}
use Rattle.awk_text.specs.declared.format_fault.FormatFault.TheVariants.{Range, Format}
use Rattle.awk_text.specs.declared.directive.Conversion.{Conversion}
use Rattle.awk_text.specs.declared.directive.Conversion.TheVariants.{Integer, Character, Text}
use Rattle.awk_text.specs.declared.directive.Notation.{Notation}
use Rattle.awk_text.specs.declared.directive.Notation.TheVariants.{Decimal, Unsigned, Octal, LowerHexadecimal, UpperHexadecimal}
use Rattle.awk_text.specs.declared.directive.Directive.{Directive}
use Rattle.awk_text.specs.declared.directive.Flags.{Flags}

-- brought to the width: under `-` by spaces behind; else with zeros behind the prefix, or by spaces in front
abbrev pub padded : (minus zeros : Bool) (width : ℕ) (prefix body : List ℕ) → List ℕ
padded minus zeros width prefix body =
    let missing = width - (length prefix + length body) in
    if minus then prefix ++ (body ++ replicate missing 32)
    else (if zeros then prefix ++ (replicate missing 48 ++ body)
    else replicate missing 32 ++ (prefix ++ body))

-- 2^128 + v of a negative number v
abbrev pub unsigned_of : ℤ → ℕ
unsigned_of (pos n) = n
unsigned_of (negsuc n) = 2 ^ 128 - suc n

-- the number whose digits are written: for `d` and `i` without its sign, for the others taken as unsigned
abbrev pub magnitude_of : Notation → ℤ → ℕ
magnitude_of Decimal z = unsigned_abs z
magnitude_of Unsigned z = unsigned_of z
magnitude_of Octal z = unsigned_of z
magnitude_of LowerHexadecimal z = unsigned_of z
magnitude_of UpperHexadecimal z = unsigned_of z

abbrev pub digits_in : Notation → ℕ → List ℕ
digits_in Decimal n = digits 10 false n
digits_in Unsigned n = digits 10 false n
digits_in Octal n = digits 8 false n
digits_in LowerHexadecimal n = digits 16 false n
digits_in UpperHexadecimal n = digits 16 true n

-- with precision 0 the number 0 has no digits
abbrev pub is_left_out : Option ℕ → ℕ → Bool
is_left_out None n = false
is_left_out (Some precision) n = precision == 0 && n == 0

-- a precision is the least number of digits, with zeros in front
abbrev pub at_least : Option ℕ → List ℕ → List ℕ
at_least None ds = ds
at_least (Some precision) ds = replicate (precision - length ds) 48 ++ ds

abbrev pub begins_with_zero : List ℕ → Bool
begins_with_zero [] = false
begins_with_zero (b ∷ bs) = b == 48

-- under `#` the digits of `o` begin with a 0
abbrev pub with_octal_zero : Notation → Bool → List ℕ → List ℕ
with_octal_zero Decimal sharp ds = ds
with_octal_zero Unsigned sharp ds = ds
with_octal_zero Octal sharp ds = if sharp && not (begins_with_zero ds) then 48 ∷ ds else ds
with_octal_zero LowerHexadecimal sharp ds = ds
with_octal_zero UpperHexadecimal sharp ds = ds

abbrev pub shown_digits : Directive → Notation → ℕ → List ℕ
shown_digits d notation n =
    with_octal_zero notation d.flags.sharp (at_least d.precision (if is_left_out d.precision n then [] else digits_in notation n))

-- a minus; else under `+` a plus; else under a space a space
abbrev pub sign_of : Flags → ℤ → List ℕ
sign_of flags (negsuc n) = 45 ∷ []
sign_of flags (pos n) = if flags.plus then 43 ∷ [] else (if flags.space then 32 ∷ [] else [])

-- the sign of `d` and `i`; under `#` 0x or 0X before the digits of `x` or `X`, unless the number is 0
abbrev pub prefix_of : Notation → Flags → ℤ → List ℕ
prefix_of Decimal flags z = sign_of flags z
prefix_of Unsigned flags z = []
prefix_of Octal flags z = []
prefix_of LowerHexadecimal flags z = if flags.sharp && not (is_zero z) then 48 ∷ 120 ∷ [] else []
prefix_of UpperHexadecimal flags z = if flags.sharp && not (is_zero z) then 48 ∷ 88 ∷ [] else []

abbrev pub is_given : Option ℕ → Bool
is_given None = false
is_given (Some n) = true

-- `0` fills the width with zeros, unless a precision is given
abbrev pub is_filled : Directive → Bool
is_filled d = d.flags.zero && not (is_given d.precision)

abbrev pub integer_field : Directive → (prefix ds : List ℕ) → List ℕ
integer_field d prefix ds = padded d.flags.minus (is_filled d) d.width prefix ds

-- `d`, `i`, `u`, `o`, `x` and `X`
abbrev pub integer_text : Directive → Notation → ℤ → List ℕ
integer_text d notation z =
    integer_field d (prefix_of notation d.flags z) (shown_digits d notation (magnitude_of notation z))

abbrev pub text_field : Directive → List ℕ → List ℕ
text_field d text = padded d.flags.minus false d.width [] text

abbrev pub cut_to : Option ℕ → List ℕ → List ℕ
cut_to None text = text
cut_to (Some precision) text = take precision text

-- `s`: the text, cut to the precision
abbrev pub string_text : Directive → List ℕ → List ℕ
string_text d text = text_field d (cut_to d.precision text)

-- `c`: the byte of a number from 0 to 255; of what isn't a number the first byte of its text, if it has one
abbrev pub character_text : Directive → Value → Result (List ℕ) FormatFault
character_text d Nothing = Ok (text_field d [])
character_text d (Number (pos n)) = if nat_le n 255 then Ok (text_field d (n ∷ [])) else Err Format
character_text d (Number (negsuc n)) = Err Format
character_text d (MadeText text) = Ok (text_field d (take 1 text))
character_text d (Input text) = Ok (text_field d (take 1 text))

abbrev pub number_text : Directive → Notation → Result ℤ ValueFault → Result (List ℕ) FormatFault
number_text d notation (Ok z) = Ok (integer_text d notation z)
number_text d notation (Err fault) = Err Range

abbrev pub converted : Directive → Conversion → Value → Result (List ℕ) FormatFault
converted d (Integer notation) v = number_text d notation (num_of v)
converted d Character v = character_text d v
converted d Text v = Ok (string_text d (str_of v))

-- the text that a directive gives of a value, or its fault
abbrev pub directive_text : Directive → Value → Result (List ℕ) FormatFault
directive_text d v = converted d d.conversion v
