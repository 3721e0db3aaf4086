-- The code counts the digits of an interval.
use Rattle.std.proofs.Common.{◌≡◌, ℕ, suc, ◌+◌, ◌-◌, ◌*◌, ◌≤◌, ◌<◌, true, List, [], ◌∷◌, length, Some, None, refl, sym, ap, ◌∙◌, arith, inl, inr}
use Rattle.std.proofs.lemmas.Option.{none-some}
use Rattle.std.proofs.lemmas.Bool.{cond-true, cond-false}
use Rattle.awk_ere.specs.definitions.Escapes.{is_digit}
use Rattle.awk_ere.specs.definitions.Tokens.{some_bytes, number}
use Rattle.awk_ere.specs.definitions.Limits.{greatest_count}
use Rattle.awk_ere.specs.support.Lexer.{digits, after_digits}
use Rattle.awk_ere.specs.support.TokenValues.{capped, seen_count, digit_seen, number_seen}
use Rattle.awk_ere.proofs.Choices.{chosen}

-- the number of the digits behind a number, capped at each step
abbrev counted : ℕ → List ℕ → ℕ
counted n [] = n
counted n (d ∷ ds) = counted (capped (10 * n + (d - 48))) ds

counted_is : (n m : ℕ) (ds : List ℕ) → n ≡ capped m → counted n ds ≡ capped (number m ds)
counted_is n m [] h = h
counted_is n m (d ∷ ds) h = counted_is (capped (10 * n + (d - 48))) (10 * m + (d - 48)) ds (omega (arith, h))

-- the digits before the rest have been counted
pub record Counts (text rest : List ℕ) (n : ℕ) : Type 0 where
  pub small : n ≤ suc greatest_count
  pub short : length rest ≤ length text
  pub value : counted n (digits rest) ≡ counted 0 (digits text)
  pub behind : after_digits rest ≡ after_digits text
  pub taken : length rest < length text → some_bytes (digits text) ≡ true
  pub same : length text ≤ length rest → rest ≡ text

-- ---- at the end of the digits

no_digit : (rest : List ℕ) → digit_seen rest ≡ None → (digits rest ≡ []) × (after_digits rest ≡ rest)
no_digit [] e = (refl, refl)
no_digit (b ∷ bs) e =
    elim (chosen (is_digit b) (Some (b - 48, bs)) None None e) [
      | inl x ↦ absurd (none-some (b - 48, bs) (sym x.1))
      | inr x ↦ (cond-false (is_digit b) (b ∷ digits bs) [] x.0, cond-false (is_digit b) (after_digits bs) (b ∷ bs) x.0)
    ]

pub counts_some : (text rest : List ℕ) (n : ℕ) → Counts text rest n → digit_seen rest ≡ None → length rest < length text → Some (n, rest) ≡ number_seen text
counts_some text rest n h e lt =
    let z = no_digit rest e in
    let value : n ≡ seen_count (digits text) = sym (ap (counted n) z.0) ∙ h.value ∙ counted_is 0 0 (digits text) refl in
    ap (λ (x : ℕ). Some (x, rest)) value
    ∙ ap (λ (l : List ℕ). Some (seen_count (digits text), l)) (sym z.1 ∙ h.behind)
    ∙ sym (cond-true (some_bytes (digits text)) (Some (seen_count (digits text), after_digits text)) None (h.taken lt))
