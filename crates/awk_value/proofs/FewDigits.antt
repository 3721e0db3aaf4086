use Rattle.std.proofs.Common.{◌≡◌, ℕ, zero, suc, ◌+◌, ◌*◌, ◌^◌, ◌<◌, ◌≤◌, true, false, List, [], ◌∷◌, add-one, arith}
use Rattle.std.specs.Prelude.{pos, neg_ℤ, Ok, Some, None, ◌==◌}
use Rattle.std.specs.Char.{is_ascii_digit}
use Rattle.std.proofs.lemmas.Bool.Decides.{nat_tests}
use Rattle.std.proofs.Math.Nat.{pow-suc, pow-le-pow_right}
use Rattle.awk_value.specs.definitions.Arithmetic.{is_in_range}
use Rattle.awk_value.specs.definitions.Numbers.{is_blank_or_newline, is_sign, has_digit, digits_value, after_digits, text_number, numeric_text}

-- One more digit.
pub more_digits : (i n digit : ℕ) → n < 10 ^ i → digit < 10 → n * 10 + digit < 10 ^ (i + 1)
more_digits i n digit before small =
    let next : 10 ^ (i + 1) ≡ 10 ^ i * 10 = rw add-one (pow-suc 10 i) in
    omega arith

pub have_room : (i n : ℕ) → n < 10 ^ i → i ≤ 18 → n < 10 ^ 18
have_room i n before few =
    let some : zero < 10 = omega arith in
    let most : 10 ^ i ≤ 10 ^ 18 = pow-le-pow_right some few in
    omega arith

-- A digit is neither a blank nor a sign.
digit_no_blank : (b : ℕ) → is_ascii_digit b ≡ true → is_blank_or_newline b ≡ false
digit_no_blank b digit = grind (arith, nat_tests)

digit_no_sign : (b : ℕ) → is_ascii_digit b ≡ true → is_sign b ≡ false
digit_no_sign b digit = grind (arith, nat_tests)

digit_no_minus : (b : ℕ) → is_ascii_digit b ≡ true → (b == 45) ≡ false
digit_no_minus b digit = grind (arith, nat_tests)

few_in_range : (n : ℕ) → n < 10 ^ 18 → is_in_range (pos n) ≡ true
few_in_range n few = grind (arith, nat_tests)

few_below_range : (n : ℕ) → n < 10 ^ 18 → is_in_range (neg_ℤ (pos n)) ≡ true
few_below_range zero few = grind (arith, nat_tests)
few_below_range (suc n) few = grind (arith, nat_tests)

-- A few digits are a number.
pub few_number : (text : List ℕ) → has_digit text ≡ true → digits_value 0 text < 10 ^ 18 → text_number text ≡ Ok (pos (digits_value 0 text))
few_number [] digit few = absurd (cc)
few_number (b ∷ bs) digit few = rw (digit_no_blank b digit, digit_no_sign b digit, digit_no_minus b digit, few_in_range (digits_value 0 (b ∷ bs)) few)

pub few_numeric : (text : List ℕ) → has_digit text ≡ true → after_digits text ≡ [] → digits_value 0 text < 10 ^ 18 → numeric_text text ≡ Some (pos (digits_value 0 text))
few_numeric [] digit ends few = absurd (cc)
few_numeric (b ∷ bs) digit ends few =
    let rest : after_digits bs ≡ [] = rw digit at ends in
    let range = rw digit at (few_in_range (digits_value 0 (b ∷ bs)) few) in
    rw (digit_no_blank b digit, digit_no_sign b digit, digit_no_minus b digit, digit, rest, range)

-- And with a minus in front another.
pub few_minus_number : (text : List ℕ) → digits_value 0 text < 10 ^ 18 → text_number (45 ∷ text) ≡ Ok (neg_ℤ (pos (digits_value 0 text)))
few_minus_number text few = rw (few_below_range (digits_value 0 text) few)

pub few_minus_numeric : (text : List ℕ) → has_digit text ≡ true → after_digits text ≡ [] → digits_value 0 text < 10 ^ 18 → numeric_text (45 ∷ text) ≡ Some (neg_ℤ (pos (digits_value 0 text)))
few_minus_numeric text digit ends few = rw (digit, ends, few_below_range (digits_value 0 text) few)

-- A text with a byte behind the digits in front is none.
word_no_blank : (b : ℕ) → 57 < b → is_blank_or_newline b ≡ false
word_no_blank b word = grind (arith, nat_tests)

word_no_sign : (b : ℕ) → 57 < b → is_sign b ≡ false
word_no_sign b word = grind (arith, nat_tests)

word_no_minus : (b : ℕ) → 57 < b → (b == 45) ≡ false
word_no_minus b word = grind (arith, nat_tests)

word_no_digit : (b : ℕ) → 57 < b → is_ascii_digit b ≡ false
word_no_digit b word = grind (arith, nat_tests)

pub word_number : (b : ℕ) (bs : List ℕ) → 57 < b → text_number (b ∷ bs) ≡ Ok (pos 0)
word_number b bs word = rw (word_no_blank b word, word_no_sign b word, word_no_minus b word, word_no_digit b word)

pub word_numeric : (b : ℕ) (bs : List ℕ) → 57 < b → numeric_text (b ∷ bs) ≡ None
word_numeric b bs word = rw (word_no_blank b word, word_no_sign b word, word_no_minus b word, word_no_digit b word)
