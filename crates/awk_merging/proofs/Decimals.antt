-- A number that is written as a text is read again.
use Rattle.std.proofs.Common.{◌≡◌, ℕ, suc, ◌+◌, ◌-◌, ◌*◌, ◌<◌, ◌^◌, ◌==◌, nat_lt, ℤ, pos, negsuc, neg_ℤ, true, false, List, [], ◌∷◌, Ok, refl, ap, ◌∙◌, arith}
use Rattle.std.specs.Fmt.{decimal, signed_decimal}
use Rattle.std.specs.Char.{is_ascii_digit, digit_value}
use Rattle.std.specs.Str.Parse.{AllDigits, IsNumeral, digits_value_after}
use Rattle.std.proofs.lemmas.Bool.{cond-true}
use Rattle.std.proofs.lemmas.Bool.Decides.{nat_tests}
use Rattle.std.proofs.lemmas.Fmt.{decimal_is_IsNumeral_wide}
use Rattle.std.proofs.lemmas.Str.{digit_value_digit}
use Rattle.std.proofs.lemmas.Str.Parse.{digit_from_value}
use Rattle.awk_value.specs.declared.value.Value.TheVariants as value
use Rattle.awk_value.specs.Arithmetic.{is_in_range}
use Rattle.awk_value.specs.Numbers.{is_blank_or_newline, is_sign, digits_value, spelled_number}
use Rattle.awk_value.specs.Values.{num_of}

-- a digit by its value is one of the text, and neither a blank nor a sign

is_digit : (c : ℕ) → digit_value c < 10 → is_ascii_digit c ≡ true
is_digit c small = let within = digit_from_value c small in grind (arith, nat_tests)

digit_no_blank : (c : ℕ) → is_ascii_digit c ≡ true → is_blank_or_newline c ≡ false
digit_no_blank c digit = grind (arith, nat_tests)

digit_no_sign : (c : ℕ) → is_ascii_digit c ≡ true → is_sign c ≡ false
digit_no_sign c digit = grind (arith, nat_tests)

digit_no_minus : (c : ℕ) → is_ascii_digit c ≡ true → (c == 45) ≡ false
digit_no_minus c digit = grind (arith, nat_tests)

-- digits have the value that the library gives them
digits_same : (n : ℕ) (ds : List ℕ) → AllDigits 10 ds → digits_value n ds ≡ digits_value_after 10 n ds
digits_same n [] all = refl
digits_same n (c ∷ cs) all =
    let size : n * 10 + (c - 48) ≡ n * 10 + digit_value c = omega (arith, digit_value_digit c (digit_from_value c all.0)) in
    cond-true _ _ _ (is_digit c all.0) ∙ ap (λ (m : ℕ). digits_value m cs) size ∙ digits_same (n * 10 + digit_value c) cs all.1

digits_spell : (ds : List ℕ) → IsNumeral 10 ds → spelled_number ds ≡ pos (digits_value 0 ds)
digits_spell [] is = absurd (omega (arith, is.0))
digits_spell (c ∷ cs) is =
    let digit = is_digit c is.1.0 in
    rw (digit_no_blank c digit, digit_no_sign c digit, digit_no_minus c digit) refl

decimal_value : (n : ℕ) → n < 10 ^ 64 → digits_value 0 (decimal n) ≡ n
decimal_value n small = digits_same 0 (decimal n) (decimal_is_IsNumeral_wide n small).0.1 ∙ (decimal_is_IsNumeral_wide n small).1

pub within : (n : ℕ) → nat_lt n (2 ^ 127) ≡ true → suc n < 10 ^ 64
within n is = grind (arith, nat_tests)

spelled_again : (z : ℤ) → is_in_range z ≡ true → spelled_number (signed_decimal z) ≡ z
spelled_again (pos n) is =
    let small : n < 10 ^ 64 = omega (arith, within n is) in
    digits_spell (decimal n) (decimal_is_IsNumeral_wide n small).0 ∙ ap pos (decimal_value n small)
spelled_again (negsuc n) is = ap (λ (m : ℕ). neg_ℤ (pos m)) (decimal_value (suc n) (within n is))

pub read_again : (z : ℤ) → is_in_range z ≡ true → num_of (value.Input (signed_decimal z)) ≡ Ok z
read_again z is = rw (spelled_again z is, is) refl
