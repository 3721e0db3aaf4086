use Rattle.std.proofs.Common.{◌≡◌, ℕ, zero, suc, ◌^◌, ◌<◌, Bool, true, false, arith}
use Rattle.std.specs.Prelude.{ℤ, pos, negsuc, Ok, Err, FitsSigned, nat_lt}
use Rattle.std.specs.Int.{w128}
use Rattle.std.proofs.lemmas.Bool.Decides.{nat_tests}
use Rattle.awk_value.specs.definitions.Arithmetic.{is_in_range, range_checked}
use Rattle.awk_value.specs.definitions.Numbers.{signed_number}
use Rattle.awk_value.specs.declared.fault.ValueFault.TheVariants.{Range}

-- The range of the language is that of the machine's 128 bits.
is_in_range_fits : (z : ℤ) → FitsSigned w128 z → is_in_range z ≡ true
is_in_range_fits (pos n) f = let fits = f.sfits in grind (arith, nat_tests)
is_in_range_fits (negsuc n) f = let fits = f.sfits in grind (arith, nat_tests)

fits_in_range : (z : ℤ) → is_in_range z ≡ true → FitsSigned w128 z
fits_in_range (pos n) e = record { sfits = grind (arith, nat_tests) }
fits_in_range (negsuc n) e = record { sfits = grind (arith, nat_tests) }

pub in_range : (z : ℤ) → FitsSigned w128 z → range_checked z ≡ Ok z
in_range z fits = rw (is_in_range_fits z fits)

by_range : (z : ℤ) (b : Bool) → is_in_range z ≡ b → (FitsSigned w128 z → ⊥) → range_checked z ≡ Err Range
by_range z true e misses = absurd (misses (fits_in_range z e))
by_range z false e misses = rw e

pub out_of_range : (z : ℤ) → (FitsSigned w128 z → ⊥) → range_checked z ≡ Err Range
out_of_range z misses = by_range z (is_in_range z) (λ i. is_in_range z) misses

-- A size above 2^127 is out of range with either sign.
pub far_out_of_range : (negative : Bool) (size : ℕ) → 2 ^ 127 < size → range_checked (signed_number negative size) ≡ Err Range
far_out_of_range true zero far = absurd (omega arith)
far_out_of_range true (suc n) far = let above : nat_lt n (2 ^ 127) ≡ false = grind (arith, nat_tests) in rw above
far_out_of_range false n far = let above : nat_lt n (2 ^ 127) ≡ false = grind (arith, nat_tests) in rw above
