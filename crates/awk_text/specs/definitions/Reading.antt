-- The parts that a format spells. POSIX awk, Output Statements (formatted output), after File Format Notation: a
-- directive is a percent sign, flags in any order and number, an optional width, an optional period with digits, and
-- the conversion.
use Rattle.std.specs.Prelude.{ℕ, zero, suc, Bool, false, ◌==◌, ◌||◌, nat_le, List, [], ◌∷◌, length, Option, Some, None, if◌then◌else◌}
use Rattle.awk_value.specs.Numbers.{digits_value, after_digits}
use Rattle.awk_text.specs.declared.directive.Conversion.{Conversion}
use Rattle.awk_text.specs.declared.directive.Conversion.TheVariants.{Integer, Character, Text}
use Rattle.awk_text.specs.declared.directive.Notation.TheVariants.{Decimal, Unsigned, Octal, LowerHexadecimal, UpperHexadecimal}
use Rattle.awk_text.specs.declared.directive.Directive.{Directive}
use Rattle.awk_text.specs.declared.directive.Flags.{Flags}
use Rattle.awk_text.specs.declared.part.Part.{Part}
use Rattle.awk_text.specs.declared.part.Part.TheVariants.{Plain, Directed, Refused}

-- a minus, a plus, a space, a `#` or a 0
abbrev pub is_flag : ℕ → Bool
is_flag b = b == 45 || (b == 43 || (b == 32 || (b == 35 || b == 48)))

abbrev pub no_flags : Flags
no_flags = record { minus = false; plus = false; space = false; sharp = false; zero = false }

-- the flags and the one that a byte is
abbrev pub with_flag : Flags → ℕ → Flags
with_flag f b = record {
  minus = f.minus || b == 45;
  plus = f.plus || b == 43;
  space = f.space || b == 32;
  sharp = f.sharp || b == 35;
  zero = f.zero || b == 48;
}

-- the flags f and those that stand in front
abbrev pub flags_from : Flags → List ℕ → Flags
flags_from f [] = f
flags_from f (b ∷ text) = if is_flag b then flags_from (with_flag f b) text else f

-- what follows the flags in front
abbrev pub after_flags : List ℕ → List ℕ
after_flags [] = []
after_flags (b ∷ text) = if is_flag b then after_flags text else b ∷ text

-- a width or a precision, and what follows it: the digits in front, and 0 where there are none; at most 65,535
abbrev pub count_of : List ℕ → Option (ℕ × List ℕ)
count_of text = if nat_le (digits_value 0 text) 65535 then Some (digits_value 0 text, after_digits text) else None

abbrev pub given : Option (ℕ × List ℕ) → Option (Option ℕ × List ℕ)
given None = None
given (Some count) = Some (Some count.0, count.1)

-- the precision, if a period stands in front, and what follows it
abbrev pub precision_of : List ℕ → Option (Option ℕ × List ℕ)
precision_of [] = Some (None, [])
precision_of (b ∷ text) = if b == 46 then given (count_of text) else Some (None, b ∷ text)

-- `d` and `i`, `o`, `x`, `X`, `u`, `c`, `s`
abbrev pub conversion_of : ℕ → Option Conversion
conversion_of b =
    if b == 100 || b == 105 then Some (Integer Decimal)
    else (if b == 111 then Some (Integer Octal)
    else (if b == 120 then Some (Integer LowerHexadecimal)
    else (if b == 88 then Some (Integer UpperHexadecimal)
    else (if b == 117 then Some (Integer Unsigned)
    else (if b == 99 then Some Character
    else (if b == 115 then Some Text
    else None))))))

abbrev pub converting : Flags → ℕ → Option ℕ → Option Conversion → List ℕ → Option (Directive × List ℕ)
converting flags width precision None text = None
converting flags width precision (Some conversion) text =
    Some (record { flags = flags; width = width; precision = precision; conversion = conversion }, text)

abbrev pub with_conversion : Flags → ℕ → Option ℕ → List ℕ → Option (Directive × List ℕ)
with_conversion flags width precision [] = None
with_conversion flags width precision (b ∷ text) = converting flags width precision (conversion_of b) text

abbrev pub with_precision : Flags → ℕ → Option (Option ℕ × List ℕ) → Option (Directive × List ℕ)
with_precision flags width None = None
with_precision flags width (Some precision) = with_conversion flags width precision.0 precision.1

abbrev pub with_width : Flags → Option (ℕ × List ℕ) → Option (Directive × List ℕ)
with_width flags None = None
with_width flags (Some width) = with_precision flags width.0 (precision_of width.1)

-- the directive behind a percent sign, and what follows it; or nothing where none stands there
abbrev pub directive_of : List ℕ → Option (Directive × List ℕ)
directive_of text = with_width (flags_from no_flags text) (count_of (after_flags text))

-- what stands before the first percent sign
abbrev pub before_percent : List ℕ → List ℕ
before_percent [] = []
before_percent (b ∷ text) = if b == 37 then [] else b ∷ before_percent text

-- the first percent sign and what follows it
abbrev pub from_percent : List ℕ → List ℕ
from_percent [] = []
from_percent (b ∷ text) = if b == 37 then b ∷ text else from_percent text

-- from a percent sign on that begins no directive all is refused
abbrev pub or_refused : Option (Directive × List ℕ) → Part × List ℕ
or_refused None = (Refused, [])
or_refused (Some directive) = (Directed directive.0, directive.1)

-- what stands behind a percent sign: a second one, for a percent sign, or a directive
abbrev pub behind_percent : List ℕ → Part × List ℕ
behind_percent [] = (Refused, [])
behind_percent (b ∷ text) = if b == 37 then (Plain (37 ∷ []), text) else or_refused (directive_of (b ∷ text))

-- the part in front of a text that isn't empty, and what follows it
abbrev pub first_part : List ℕ → Part × List ℕ
first_part [] = (Refused, [])
first_part (b ∷ text) =
    if b == 37 then behind_percent text else (Plain (before_percent (b ∷ text)), from_percent (b ∷ text))

-- the parts of a text, so many at most
abbrev pub parts_within : ℕ → List ℕ → List Part
parts_within n [] = []
parts_within zero (b ∷ text) = []
parts_within (suc n) (b ∷ text) = let first = first_part (b ∷ text) in first.0 ∷ parts_within n first.1

-- all of them: each takes a byte or more, so there are no more of them than bytes
abbrev pub parts_of : List ℕ → List Part
parts_of text = parts_within (length text) text
