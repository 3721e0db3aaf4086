-- Arithmetic on whole numbers without bounds, of which only the end is tested for range
-- (POSIX awk, Expressions in awk: the arithmetic operators).
use Rattle.std.specs.Prelude.{◌^◌, Bool, false, ℤ, pos, negsuc, neg_ℤ, ◌+ℤ◌, ◌-ℤ◌, ◌*ℤ◌, int_div, int_rem, nat_lt, ◌==◌, if◌then◌else◌, Result, Ok, Err}
use Rattle.std.specs.Int.{int_pow}
use Rattle.awk_value.specs.declared.fault.ValueFault.{ValueFault}
use Rattle.awk_value.specs.declared.fault.ValueFault.TheVariants.{Range, ZeroDivisor, NegativePower}

-- from -2^127 to 2^127 - 1
abbrev pub is_in_range : ℤ → Bool
is_in_range (pos n) = nat_lt n (2 ^ 127)
is_in_range (negsuc n) = nat_lt n (2 ^ 127)

-- the number, or the fault where it is out of range
abbrev pub range_checked : ℤ → Result ℤ ValueFault
range_checked z = if is_in_range z then Ok z else Err Range

abbrev pub is_zero : ℤ → Bool
is_zero (pos n) = n == 0
is_zero (negsuc n) = false

abbrev pub product_of : ℤ → ℤ → Result ℤ ValueFault
product_of m n = range_checked (m *ℤ n)

abbrev pub sum_of : ℤ → ℤ → Result ℤ ValueFault
sum_of m n = range_checked (m +ℤ n)

abbrev pub difference_of : ℤ → ℤ → Result ℤ ValueFault
difference_of m n = range_checked (m -ℤ n)

abbrev pub negative_of : ℤ → Result ℤ ValueFault
negative_of n = range_checked (neg_ℤ n)

-- the quotient, cut off toward zero
abbrev pub quotient_of : ℤ → ℤ → Result ℤ ValueFault
quotient_of m n = if is_zero n then Err ZeroDivisor else range_checked (int_div m n)

-- what division leaves of the dividend, whose sign it takes
abbrev pub remainder_of : ℤ → ℤ → Result ℤ ValueFault
remainder_of m n = if is_zero n then Err ZeroDivisor else Ok (int_rem m n)

-- the power by an exponent that is not negative; the power by 0 is 1
abbrev pub power_of : ℤ → ℤ → Result ℤ ValueFault
power_of m (pos e) = range_checked (int_pow m e)
power_of m (negsuc e) = Err NegativePower
