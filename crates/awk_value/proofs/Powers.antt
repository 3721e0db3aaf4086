use Rattle.std.proofs.Common.{◌≡◌, ℕ, zero, suc, ◌^◌, ◌<◌, ◌≤◌, ◌%◌, Bool, true, false, cond, arith, nat_eq}
use Rattle.std.specs.Prelude.{ℤ, pos, negsuc, Ok, Err, neg_ℤ, unsigned_abs}
use Rattle.std.specs.Int.{int_pow}
use Rattle.std.proofs.Math.Nat.{pow-zero, pow-suc, mul-le-mul}
use Rattle.std.proofs.Math.Pow.{pow_mono}
use Rattle.awk_value.specs.definitions.Arithmetic.{range_checked}
use Rattle.awk_value.specs.declared.fault.ValueFault.TheVariants.{Range}
use Rattle.awk_value.proofs.RangeIsInt128.{far_out_of_range}

-- The powers of 0, 1 and -1.
pub powers_of_zero : (e : ℕ) → 127 < e → range_checked (int_pow (pos 0) e) ≡ Ok (pos 0)
powers_of_zero zero large = absurd (omega arith)
powers_of_zero (suc e) large = let is_zero : 0 ^ suc e ≡ 0 = rw (pow-suc 0 e) (omega arith) in rw is_zero

one_power : (e : ℕ) → 1 ^ e ≡ 1
one_power zero = pow-zero 1
one_power (suc e) = rw (pow-suc 1 e) (rw (one_power e))

pub powers_of_one : (e : ℕ) → range_checked (int_pow (pos 1) e) ≡ Ok (pos 1)
powers_of_one e = rw (one_power e)

pub even_powers_of_minus_one : (e : ℕ) → e % 2 ≡ 0 → range_checked (int_pow (negsuc 0) e) ≡ Ok (pos 1)
even_powers_of_minus_one e even = rw even (rw (one_power e))

pub odd_powers_of_minus_one : (e : ℕ) → e % 2 ≡ 1 → range_checked (int_pow (negsuc 0) e) ≡ Ok (negsuc 0)
odd_powers_of_minus_one e odd = rw odd (rw (one_power e))

-- The powers of any other number pass 2^127 from the exponent 128 on.
power_grows : (m e : ℕ) → 1 < m → 2 ^ e ≤ m ^ e
power_grows m zero h = rw (pow-zero 2) (rw (pow-zero m) (omega arith))
power_grows m (suc e) h =
    let before = power_grows m e h in
    let two : 2 ≤ m = omega arith in
    rw (pow-suc 2 e) (rw (pow-suc m e) (mul-le-mul before two))

passes_range : (m e : ℕ) → 1 < m → 127 < e → 2 ^ 127 < m ^ e
passes_range m e h large =
    let at_least = power_grows m e h in
    let far : 2 ^ 128 ≤ 2 ^ e = pow_mono large in
    omega arith

pub far_powers : (m : ℤ) (e : ℕ) → 1 < unsigned_abs m → 127 < e → range_checked (int_pow m e) ≡ Err Range
far_powers (pos m) e h large = far_out_of_range false (m ^ e) (passes_range m e h large)
far_powers (negsuc m) e h large =
    let size = suc m ^ e in
    let passes : 2 ^ 127 < size = passes_range (suc m) e h large in
    elim (nat_eq (e % 2) 0) as (λ (b : Bool). range_checked (cond b (pos size) (neg_ℤ (pos size))) ≡ Err Range) [ true ↦ far_out_of_range false size passes | false ↦ far_out_of_range true size passes ]

-- The powers from the exponent 128 on.
pub ruleset far_exponents = (powers_of_zero, powers_of_one, even_powers_of_minus_one, odd_powers_of_minus_one, far_powers)
