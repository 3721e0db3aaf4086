-- Single bits of what is computed of masks.
use Rattle.std.proofs.Common.{◌≡◌, ℕ, ◌+◌, ◌-◌, ◌*◌, ◌/◌, ◌%◌, ◌^◌, ◌<◌, ◌≤◌, sym, ap, ◌∙◌, arith, inl, inr}
use Rattle.std.specs.Prelude.{min}
use Rattle.std.specs.Int.{bit_at}
use Rattle.std.proofs.Math.Pow.{pow-lt, pow_mono}
use Rattle.std.proofs.lemmas.Bool.{cases_lt}
use Rattle.std.proofs.lemmas.Nat.{and_mask}
use Rattle.std.proofs.lemmas.Nat.Bits.{bit_at-lt, bit_at_and, bit_at_ones, bit_at_ones_above, bit_at-pow_same, bit_at-pow_other, bit_at_cat_low, bit_at_cat_high, same_from_bits_below}
use lib.Bits.{bit_and}

pub min_one : (b c : ℕ) → b < 2 → c ≡ 1 → min b c ≡ b
min_one b c lt is = omega arith

pub min_zero : (b c : ℕ) → c ≡ 0 → min b c ≡ 0
min_zero b c is = omega arith

-- of a number's w lowest bits each is the number's, and behind them there is none
pub masked_below : (n w k : ℕ) → k < w → bit_at (bit_and n (2 ^ w - 1)) k ≡ bit_at n k
masked_below n w k lt = bit_at_and n (2 ^ w - 1) k ∙ min_one _ _ (bit_at-lt n k) (bit_at_ones w k lt)

pub masked_above : (n w k : ℕ) → w ≤ k → bit_at (bit_and n (2 ^ w - 1)) k ≡ 0
masked_above n w k le = bit_at_and n (2 ^ w - 1) k ∙ min_zero _ _ (bit_at_ones_above w k le)

pub mod_below : (n w k : ℕ) → k < w → bit_at (n % 2 ^ w) k ≡ bit_at n k
mod_below n w k lt = ap (λ (x : ℕ). bit_at x k) (sym (and_mask n w)) ∙ masked_below n w k lt

sub_add : (m a b : ℕ) → 0 < b → m ≡ a + b → m - 1 ≡ a + (b - 1)
sub_add m a b some is = omega arith

pow-some : (z : ℕ) → 0 < 2 ^ z
pow-some z = let one : 2 ^ 0 ≤ 2 ^ z = pow_mono {i = 0} {j = z} (omega arith) in omega arith

-- a number whose lowest bit is at z, and one less
module _ (m z : ℕ) (lowest : bit_at m z ≡ 1) (none : (i : ℕ) → i < z → bit_at m i ≡ 0) where
  low_part : m % 2 ^ (z + 1) ≡ 2 ^ z
  low_part =
      let less : 2 ^ z < 2 ^ (z + 1) = pow-lt (omega arith) in
      let small : m % 2 ^ (z + 1) < 2 ^ (z + 1) = omega arith in
      same_from_bits_below (z + 1) (m % 2 ^ (z + 1)) (2 ^ z) small less (λ i lt. mod_below m (z + 1) i lt ∙ elim (cases_lt i z) as (λ _. bit_at m i ≡ bit_at (2 ^ z) i) [
        | inl before ↦ none i before ∙ sym (bit_at-pow_other z i (λ e. omega arith))
        | inr le ↦ let same : i ≡ z = omega arith in ap (bit_at m) same ∙ (lowest ∙ (sym (bit_at-pow_same z) ∙ ap (bit_at (2 ^ z)) (sym same)))
      ])

  parts : m ≡ m / 2 ^ (z + 1) * 2 ^ (z + 1) + 2 ^ z
  parts = let some : 0 < 2 ^ (z + 1) = pow-some (z + 1) in omega (arith, low_part)

  one_less : m - 1 ≡ m / 2 ^ (z + 1) * 2 ^ (z + 1) + (2 ^ z - 1)
  one_less = sub_add m (m / 2 ^ (z + 1) * 2 ^ (z + 1)) (2 ^ z) (pow-some z) parts

  -- without its lowest bit
  pub lowest_off : (k : ℕ) → k ≤ z → bit_at (bit_and m (m - 1)) k ≡ 0
  lowest_off k le = bit_at_and m (m - 1) k ∙ elim (cases_lt k z) as (λ _. min (bit_at m k) (bit_at (m - 1) k) ≡ 0) [
    | inl lt ↦ let zero_bit = none k lt in omega arith
    | inr ge ↦
        let same : k ≡ z = omega arith in
        min_zero _ _ (ap (bit_at (m - 1)) same ∙ (ap (λ (x : ℕ). bit_at x z) one_less
        ∙ (bit_at_cat_low (m / 2 ^ (z + 1)) (z + 1) (2 ^ z - 1) z (omega arith) ∙ bit_at_ones_above z z (omega arith))))
  ]

  pub higher_stay : (k : ℕ) → z < k → bit_at (bit_and m (m - 1)) k ≡ bit_at m k
  higher_stay k lt =
      let less : 2 ^ z < 2 ^ (z + 1) = pow-lt (omega arith) in
      let q = m / 2 ^ (z + 1) in
      let high : bit_at m k ≡ bit_at q (k - (z + 1)) = ap (λ (x : ℕ). bit_at x k) parts ∙ bit_at_cat_high q (z + 1) (2 ^ z) k less (omega arith) in
      let lower : bit_at (m - 1) k ≡ bit_at q (k - (z + 1)) = ap (λ (x : ℕ). bit_at x k) one_less ∙ bit_at_cat_high q (z + 1) (2 ^ z - 1) k (omega arith) (omega arith) in
      bit_at_and m (m - 1) k ∙ (let same : bit_at (m - 1) k ≡ bit_at m k = lower ∙ sym high in omega arith)
