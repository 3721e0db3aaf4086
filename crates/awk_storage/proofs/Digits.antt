-- A number's text isn't empty.
use Rattle.std.proofs.Common.{◌≡◌, ℕ, zero, suc, ◌<◌, ℤ, pos, negsuc, Bool, true, false, if◌then◌else◌, List, [], ◌∷◌, length, ◌/◌, ◌%◌, sym, arith}
use Rattle.std.specs.Prelude.{◌==◌}
use Rattle.std.specs.Fmt.{digits, digits_onto, digit_glyph, decimal, signed_decimal}
use Rattle.std.proofs.lemmas.Bool.{ne_eqb}

chosen : (b : Bool) (x y : List ℕ) → 0 < length x → 0 < length y → 0 < length (if b then x else y)
chosen true x y some_x some_y = some_x
chosen false x y some_x some_y = some_y

digits_onto_some : (k base : ℕ) (upper : Bool) (n d : ℕ) (acc : List ℕ) → 0 < length (digits_onto k base upper n (d ∷ acc))
digits_onto_some zero base upper n d acc = omega arith
digits_onto_some (suc k) base upper n d acc = chosen (n / base == 0) _ _ (omega arith) (digits_onto_some k base upper (n / base) (digit_glyph upper (n % base)) (d ∷ acc))

decimal_some : (n : ℕ) → 0 < length (decimal n)
unfolding digits
decimal_some n = chosen (n / 10 == 0) _ _ (omega arith) (digits_onto_some 63 10 false (n / 10) (digit_glyph false (n % 10)) [])

signed_decimal_some : (z : ℤ) → 0 < length (signed_decimal z)
signed_decimal_some (pos n) = decimal_some n
signed_decimal_some (negsuc n) = omega arith

pub signed_decimal_not_empty : (z : ℤ) → false ≡ (length (signed_decimal z) == 0)
signed_decimal_not_empty z = sym (ne_eqb (length (signed_decimal z)) 0 (λ (e : length (signed_decimal z) ≡ 0). absurd (omega (arith, e, signed_decimal_some z))))
