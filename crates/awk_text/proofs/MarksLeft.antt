-- From the marks that are left to the next place, and on.
use Rattle.std.proofs.Common.{◌≡◌, ℕ, ◌+◌, ◌-◌, ◌^◌, ◌<◌, ◌≤◌, Bool, true, false, cond, ◌&&◌, w64, refl, sym, ap, ◌∙◌, arith, inl, inr}
use Rattle.std.specs.Int.{bit_at, trailing_zeros}
use Rattle.std.proofs.lemmas.Bool.{cases_lt, le-leb, lt-leb, leb-true}
use Rattle.std.proofs.lemmas.Nat.Bits.{bit_at-zero, bit_at-trailing_zeros}
use lib.Bits.{bit_and}
use Rattle.awk_text.specs.declared.marks.Marks.{Marks}
use Rattle.awk_text.specs.support.Stretch.{AreMarks}
use Rattle.awk_text.specs.support.MarksLeft.{AreLeft, IsNextPlace, from_here}
use Rattle.awk_text.proofs.Bits.{lowest_off, higher_stay}

is_set : (b : Bool) → 1 ≡ cond {A = ℕ} b 1 0 → b ≡ true
is_set true e = refl
is_set false e = absurd (omega arith)

is_unset : (b : Bool) → 0 ≡ cond {A = ℕ} b 1 0 → b ≡ false
is_unset true e = absurd (omega arith)
is_unset false e = refl

both_first : (a b : Bool) → a && b ≡ true → a ≡ true
both_first true b e = refl
both_first false b e = e

both_second : (a b : Bool) → a && b ≡ true → b ≡ true
both_second true b e = e
both_second false true e = refl
both_second false false e = e

from_here_same : (test : ℕ → Bool) (from place : ℕ) → from ≤ place → from_here from test place ≡ test place
from_here_same test from place le = ap (λ (b : Bool). b && test place) (le-leb from place le)

from_here_not : (test : ℕ → Bool) (from place : ℕ) → place < from → from_here from test place ≡ false
from_here_not test from place lt = ap (λ (b : Bool). b && test place) (lt-leb from place lt)

-- without a bit none of the places passes
pub none_left : (test : ℕ → Bool) (from : ℕ) (left : Marks) → AreLeft test from left → left.bits ≡ 0 → (k : ℕ) → from ≤ k → k < left.end → test k ≡ false
none_left test from left are none k low high =
    let order : left.base ≤ left.end = are.order in
    elim (cases_lt k left.base) [
      | inl lt ↦ are.before k low lt
      | inr le ↦
          let place : left.base + (k - left.base) ≡ k = omega arith in
          let bit : 0 ≡ cond (from_here from test (left.base + (k - left.base))) 1 0 =
          sym (bit_at-zero (k - left.base)) ∙ (ap (λ (x : ℕ). bit_at x (k - left.base)) (sym none) ∙ are.marks.each (k - left.base) (omega arith)) in
          sym (from_here_same test from k low) ∙ (ap (from_here from test) (sym place) ∙ is_unset _ bit)
    ]

-- the next bytes were looked at
pub left_further : (test : ℕ → Bool) (from : ℕ) (left : Marks) (count bits : ℕ) → AreLeft test from left → left.bits ≡ 0 → AreMarks test left.end count bits →
    AreLeft test from (record { base = left.end; bits = bits; end = left.end + count })
left_further test from left count bits are none marks =
    let high : from ≤ left.end = are.high in
    record {
      order = omega arith;
      high = omega arith;
      before = none_left test from left are none;
      marks = record {
        each = λ k lt. marks.each k (omega arith) ∙ ap (λ (b : Bool). cond b 1 0) (sym (from_here_same test from (left.end + k) (omega arith)));
        none = λ k le. marks.none k (omega arith);
      };
    }

-- at the end of the text none is left
pub end_of_left : (test : ℕ → Bool) (from limit : ℕ) (left : Marks) → AreLeft test from left → left.bits ≡ 0 → left.end ≡ limit → IsNextPlace test limit from limit
end_of_left test from limit left are none end = record {
  high = omega (arith, are.high);
  within = omega arith;
  none = λ k low high. none_left test from left are none k low (omega arith);
  stops = λ lt. absurd (omega arith);
}

pub left_at_end : (test : ℕ → Bool) (from limit : ℕ) (left : Marks) → AreLeft test from left → left.bits ≡ 0 → left.end ≡ limit → AreLeft test limit left
left_at_end test from limit left are none end =
    let order : left.base ≤ left.end = are.order in
    record {
      order = order;
      high = omega arith;
      before = λ k low high. absurd (omega arith);
      marks = record {
        each = λ k lt.
            ap (λ (x : ℕ). bit_at x k) none
            ∙ (bit_at-zero k ∙ sym (ap (λ (b : Bool). cond b 1 0) (from_here_not test limit (left.base + k) (omega arith))));
        none = λ k le. ap (λ (x : ℕ). bit_at x k) none ∙ bit_at-zero k;
      };
    }

-- the lowest bit is that of the next place
module _ (test : ℕ → Bool) (from : ℕ) (left : Marks) (are : AreLeft test from left) (some : 0 < left.bits) (fits : left.bits < 2 ^ 64) where
  pub lowest_within : left.base + trailing_zeros w64 left.bits < left.end
  lowest_within =
      let z = trailing_zeros w64 left.bits in
      let lowest = bit_at-trailing_zeros w64 left.bits some fits in
      let order : left.base ≤ left.end = are.order in
      elim (cases_lt (left.base + z) left.end) [
        | inl lt ↦ lt
        | inr le ↦ let unset : bit_at left.bits z ≡ 0 = are.marks.none z (omega arith) in let set : bit_at left.bits z ≡ 1 = lowest.1 in absurd (omega arith)
      ]

  found : from_here from test (left.base + trailing_zeros w64 left.bits) ≡ true
  found =
      let z = trailing_zeros w64 left.bits in
      let lowest = bit_at-trailing_zeros w64 left.bits some fits in
      let within : left.base + z < left.end = lowest_within in
      is_set _ (sym lowest.1 ∙ are.marks.each z (omega arith))

  pub found_low : from ≤ left.base + trailing_zeros w64 left.bits
  found_low = leb-true _ _ (both_first _ _ found)

  pub next_of_left : IsNextPlace test left.end from (left.base + trailing_zeros w64 left.bits)
  next_of_left =
      let z = trailing_zeros w64 left.bits in
      let lowest = bit_at-trailing_zeros w64 left.bits some fits in
      let within : left.base + z < left.end = lowest_within in
      record {
        high = found_low;
        within = omega arith;
        none = λ k low high. elim (cases_lt k left.base) [
          | inl lt ↦ are.before k low lt
          | inr le ↦
              let place : left.base + (k - left.base) ≡ k = omega arith in
              let bit : 0 ≡ cond (from_here from test (left.base + (k - left.base))) 1 0 = sym (lowest.2 (k - left.base) (omega arith)) ∙ are.marks.each (k - left.base) (omega arith) in
              sym (from_here_same test from k low) ∙ (ap (from_here from test) (sym place) ∙ is_unset _ bit)
        ];
        stops = λ _. both_second _ _ found;
      }

  -- the others are left
  pub left_behind : AreLeft test (left.base + trailing_zeros w64 left.bits + 1) (record { base = left.base; bits = bit_and left.bits (left.bits - 1); end = left.end })
  left_behind =
      let z = trailing_zeros w64 left.bits in
      let lowest = bit_at-trailing_zeros w64 left.bits some fits in
      let within : left.base + z < left.end = lowest_within in
      let low : from ≤ left.base + z = found_low in
      let one : bit_at left.bits z ≡ 1 = lowest.1 in
      record {
        order = are.order;
        high = omega arith;
        before = λ k from to. absurd (omega arith);
        marks = record {
          each = λ k lt. elim (cases_lt z k) as (λ _. bit_at (bit_and left.bits (left.bits - 1)) k ≡ cond (from_here (left.base + z + 1) test (left.base + k)) 1 0) [
            | inl higher ↦
                higher_stay left.bits z one lowest.2 k higher
                ∙ (are.marks.each k lt
                ∙ ap (λ (b : Bool). cond b 1 0) (from_here_same test from (left.base + k) (omega arith) ∙ sym (from_here_same test (left.base + z + 1) (left.base + k) (omega arith))))
            | inr le ↦
                lowest_off left.bits z one lowest.2 k le
                ∙ sym (ap (λ (b : Bool). cond b 1 0) (from_here_not test (left.base + z + 1) (left.base + k) (omega arith)))
          ];
          none = λ k le. elim (cases_lt z k) as (λ _. bit_at (bit_and left.bits (left.bits - 1)) k ≡ 0) [
            | inl higher ↦ higher_stay left.bits z one lowest.2 k higher ∙ are.marks.none k le
            | inr lower ↦ lowest_off left.bits z one lowest.2 k lower
          ];
        };
      }

-- the text goes on behind the marks
pub next_within : (test : ℕ → Bool) (end limit from place : ℕ) → IsNextPlace test end from place → place < end → end ≤ limit → IsNextPlace test limit from place
next_within test end limit from place is lt le = record {
  high = is.high;
  within = omega arith;
  none = is.none;
  stops = λ _. is.stops lt;
}
