use Rattle.std.proofs.Common.{◌≡◌, ◌<◌, ◌≤◌, ◌^◌, ◌∙◌, ◌⊎◌, inl, inr, ℕ, ap, sym, refl, length, get_or, w64, arith}
use Rattle.std.specs.Fmt.{decimal, signed_decimal}
use Rattle.std.proofs.Math.Facts.{to_z_pos}
use Rattle.awk_value.proofs.Decimals.{none-empty, none-other, none-padded, none-mixed, few-small, few-form}
use Rattle.awk_value.proofs.decimal.decimal_number.Goals as goal

pub returns-then-is_empty-clause-none : goal.returns-then-is_empty-clause-none
returns-then-is_empty-clause-none c =
    let e = c.if-is_empty in
    none-empty c.args.text.now (grind arith)

pub returns-then-not-is_ascii_digit-clause-none : goal.returns-then-not-is_ascii_digit-clause-none
returns-then-not-is_ascii_digit-clause-none c =
    none-other c.args.text.now (get_or c.args.text.now 0 0) refl c.if-first-eq45.false (sym c.is_ascii_digit.ensures.value ∙ c.if-not-is_ascii_digit.true)

pub returns-then-text-gt1-clause-none : goal.returns-then-text-gt1-clause-none
returns-then-text-gt1-clause-none c =
    none-padded c.args.text.now (get_or c.args.text.now 0 0) refl c.if-first-eq48.true c.if-text-gt1.true

pub overflow_cast-result : goal.overflow_cast-result
overflow_cast-result c =
    let small = few-small c.args.text.now c.in-Some.ensures.all c.if-text-gt-FEW.false in
    record { sfits = omega (arith, small, c.in-Some.ensures.number) }

pub returns-in-Some-clause-some : goal.returns-in-Some-clause-some
returns-in-Some-clause-some c =
    let text = c.args.text.now in
    let first = get_or text 0 0 in
    let number = c.in-Some.ensures.number in
    let small = few-small text c.in-Some.ensures.all c.if-text-gt-FEW.false in
    let padded : first ≡ 48 → 1 < length text → ⊥ = λ zero more. by first (length text) c.else-first-eq48.either zero more in
    let some : 0 < length text = grind arith in
    let low : c.in-Some.number < 2 ^ 63 = omega (arith, small, number) in
    sym (ap signed_decimal (to_z_pos w64 low) ∙ ap decimal number ∙ few-form text first refl some c.if-text-gt-FEW.false c.in-Some.ensures.all padded)
  where
    by : (first count : ℕ) → (first ≡ 48 × (count ≤ 1)) ⊎ (first ≡ 48 → ⊥) → first ≡ 48 → 1 < count → ⊥
    by first count (inl h) zero more = omega arith
    by first count (inr h) zero more = h zero

pub returns-in-None-clause-none : goal.returns-in-None-clause-none
returns-in-None-clause-none c =
    none-mixed c.args.text.now (get_or c.args.text.now 0 0) refl c.if-first-eq45.false c.in-None.ensures.none
