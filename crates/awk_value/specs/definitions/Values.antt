-- What a value means: its number, its text, its truth, its order among others
-- (POSIX awk, Expressions in awk).
use Rattle.std.specs.Prelude.{ℕ, Bool, not, ℤ, pos, List, [], Result, Ok, Err, Option, Some, None}
use Rattle.std.specs.Fmt.{signed_decimal}
use Rattle.std.specs.Ordering.{nat_cmp, int_cmp}
use Rattle.std.specs.Cmp.Lexicographic.{slice_cmp}
use Rattle.std.specs.declared.cmp.Ordering.{Ordering}
use Rattle.awk_value.specs.declared.fault.ValueFault.{ValueFault}
use Rattle.awk_value.specs.declared.value.Value.{Value}
use Rattle.awk_value.specs.declared.value.Value.TheVariants.{Nothing, Number, Text, Input}
use Rattle.awk_value.specs.definitions.Arithmetic.{is_zero}
use Rattle.awk_value.specs.definitions.Numbers.{is_empty, text_number, numeric_text}

-- the number of a value; an uninitialized value is 0
abbrev pub num_of : Value → Result ℤ ValueFault
num_of Nothing = Ok (pos 0)
num_of (Number n) = Ok n
num_of (Text t) = text_number t
num_of (Input t) = text_number t

-- the text of a value; an uninitialized value is the empty text, a number its decimal form
abbrev pub str_of : Value → List ℕ
str_of Nothing = []
str_of (Number n) = signed_decimal n
str_of (Text t) = t
str_of (Input t) = t

-- the number as which a value is tested and compared, if it counts as one: an uninitialized
-- value, a number, or a numeric text that came from outside (the standard's numeric string)
abbrev pub numeric_of : Value → Option ℤ
numeric_of Nothing = Some (pos 0)
numeric_of (Number n) = Some n
numeric_of (Text t) = None
numeric_of (Input t) = numeric_text t

-- a number is true where it is not 0, a text where it is not empty
abbrev pub truth_by : Option ℤ → List ℕ → Bool
truth_by (Some n) text = not (is_zero n)
truth_by None text = not (is_empty text)

abbrev pub truth_of : Value → Bool
truth_of v = truth_by (numeric_of v) (str_of v)

-- by the numbers where both sides have one, as two numeric texts from outside do too; else by
-- the bytes of the texts
abbrev pub order_by : Option ℤ → Option ℤ → List ℕ → List ℕ → Ordering
order_by (Some m) (Some n) s t = int_cmp m n
order_by (Some m) None s t = slice_cmp nat_cmp s t
order_by None n s t = slice_cmp nat_cmp s t

abbrev pub order_of : Value → Value → Ordering
order_of a b = order_by (numeric_of a) (numeric_of b) (str_of a) (str_of b)

abbrev pub number_value : Result ℤ ValueFault → Result Value ValueFault
number_value (Ok n) = Ok (Number n)
number_value (Err fault) = Err fault

-- what an operation makes of the numbers of two operands, of which the left one's comes first
abbrev pub from_numbers : (ℤ → ℤ → Result ℤ ValueFault) → Result ℤ ValueFault → Result ℤ ValueFault → Result Value ValueFault
from_numbers operation (Ok m) (Ok n) = number_value (operation m n)
from_numbers operation (Ok m) (Err fault) = Err fault
from_numbers operation (Err fault) right = Err fault

-- and of the number of one
abbrev pub from_number : (ℤ → Result ℤ ValueFault) → Result ℤ ValueFault → Result Value ValueFault
from_number operation (Ok n) = number_value (operation n)
from_number operation (Err fault) = Err fault
