-- The newlines in front, and two in a row.
use Rattle.std.proofs.Common.{◌≡◌, inl, inr, ℕ, zero, suc, ◌+◌, ◌<◌, ◌≤◌, true, false, ◌==◌, List, [], ◌∷◌, length, drop, get_or, sym, ◌∙◌, ap, arith}
use Rattle.std.proofs.lemmas.Bool.{cases_Bool, cond-true, cond-false, eqb-true, eq-eqb}
use Rattle.std.proofs.lemmas.List.{get_or-drop}
use Rattle.awk_record.specs.definitions.Cut.{begins_with, newlines}
use Rattle.awk_record.specs.support.Boundary.{AreNewlines}
use Rattle.awk_record.proofs.SearchFindsFirst.{begins_reads}

-- ---- newlines in front

-- those that are known, and those behind them
pub newlines_more : (n : ℕ) (bytes : List ℕ) → n ≤ length bytes → AreNewlines n bytes → n + newlines (drop n bytes) ≡ newlines bytes
newlines_more zero bytes le are = omega arith
newlines_more (suc n) [] le are = absurd (omega arith)
newlines_more (suc n) (b ∷ bytes) le are =
    let rest : n + newlines (drop n bytes) ≡ newlines bytes = newlines_more n bytes (omega arith) (λ k lt. are (suc k) (omega arith)) in
    let first : (b == 10) ≡ true = eq-eqb b 10 (are 0 (omega arith)) in
    let all : newlines (b ∷ bytes) ≡ suc (newlines bytes) = cond-true _ _ _ first in
    omega arith

pub newlines_are : (bytes : List ℕ) → AreNewlines (newlines bytes) bytes
newlines_are [] k lt = absurd (omega arith)
newlines_are (b ∷ bytes) k lt = elim (cases_Bool (b == 10)) [
  | inl holds ↦
      let all : newlines (b ∷ bytes) ≡ suc (newlines bytes) = cond-true _ _ _ holds in
      reads_newline b bytes (eqb-true b 10 holds) (newlines_are bytes) k (omega arith)
  | inr fails ↦ let none : newlines (b ∷ bytes) ≡ 0 = cond-false _ _ _ fails in absurd (omega arith)
]
  where
    reads_newline : (b : ℕ) (bytes : List ℕ) → b ≡ 10 → AreNewlines (newlines bytes) bytes → (k : ℕ) → k < suc (newlines bytes) → get_or (b ∷ bytes) k 0 ≡ 10
    reads_newline b bytes is are zero lt = is
    reads_newline b bytes is are (suc k) lt = are k (omega arith)

-- ---- two newlines in a row

pub two_fail : (bytes : List ℕ) (k : ℕ) → (get_or bytes k 0 ≡ 10 → get_or bytes (k + 1) 0 ≡ 10 → ⊥) → begins_with (10 ∷ 10 ∷ []) (drop k bytes) ≡ false
two_fail bytes k none = elim (cases_Bool (begins_with (10 ∷ 10 ∷ []) (drop k bytes))) [
  | inl holds ↦
      let place : k + 0 ≡ k = omega arith in
      let first = begins_reads (10 ∷ 10 ∷ []) (drop k bytes) 0 (omega arith) holds in
      let second = begins_reads (10 ∷ 10 ∷ []) (drop k bytes) 1 (omega arith) holds in
      absurd (none (ap (λ j. get_or bytes j 0) (sym place) ∙ (sym (get_or-drop k bytes 0 0) ∙ first)) (sym (get_or-drop k bytes 1 0) ∙ second))
  | inr fails ↦ fails
]
