-- The first place of a byte, by the marks of a load and by those behind it.
use Rattle.std.proofs.Common.{◌≡◌, ℕ, ◌+◌, ◌-◌, ◌^◌, ◌<◌, ◌≤◌, Bool, true, false, cond, List, map, drop, length, get_or, None, Some, w64, refl, sym, ◌∙◌, ap, arith, inl, inr}
use Rattle.std.specs.Int.{bit_at, trailing_zeros}
use Rattle.std.specs.Slice.Scan.{HoldsNowhere, IsFirstPlace, Marks}
use Rattle.std.proofs.lemmas.Bool.{cases_lt, true≢false}
use Rattle.std.proofs.lemmas.Nat.Bits.{bit_at-trailing_zeros}
use Rattle.std.proofs.lemmas.Simd.{bit_mask_l, length-chunk, get_or-chunk, none_from_empty_mask}
use Rattle.std.proofs.lemmas.List.{length-map, get_or-map, get_or_past, get_or-drop, length-drop}
use lib.Lanes.{chunk, mask_l}
use Rattle.memchr.specs.Find.{IsFirstByte, is_byte}

-- a lane that is marked
marked : (b : Bool) → 1 ≡ cond {A = ℕ} b 1 0 → b ≡ true
marked true e = refl
marked false e = absurd (omega arith)

unmarked : (b : Bool) → 0 ≡ cond {A = ℕ} b 1 0 → b ≡ false
unmarked true e = absurd (omega arith)
unmarked false e = refl

-- the mask of a load marks the places where the test holds
pub marks_of_mask : (p : ℕ → Bool) (xs : List ℕ) (i n m : ℕ) → i + n ≤ length xs → n ≤ 64 → m < 2 ^ 64 → m ≡ mask_l (map p (chunk i n xs)) → Marks (λ k. p (get_or xs k 0)) i n m
marks_of_mask p xs i n m room few fits is =
    let v = chunk i n xs in
    let kinds = map p v in
    let long : length v ≡ n = length-chunk i n xs room in
    let size : length kinds ≡ n = length-map v p ∙ long in
    let bit : (k : ℕ) → bit_at m k ≡ cond (get_or kinds k false) 1 0 = λ k. ap (λ (x : ℕ). bit_at x k) is ∙ bit_mask_l kinds k in
    let lane : (k : ℕ) → k < n → get_or kinds k false ≡ p (get_or xs (i + k) 0) =
    λ k lt. get_or-map p v k 0 false (omega arith) ∙ ap p (get_or-chunk i n xs k 0 lt) in
    record {
      none = λ e k low high. none_from_empty_mask p xs i n 0 room (sym is ∙ e) k low high;
      lowest = λ some.
          let z = trailing_zeros w64 m in
          let first = bit_at-trailing_zeros w64 m some fits in
          let set : get_or kinds z false ≡ true = marked _ (sym first.1 ∙ bit z) in
          let lt : z < n = elim (cases_lt z n) [
            | inl lt ↦ lt
            | inr le ↦ absurd (true≢false (sym set ∙ get_or_past kinds z false (omega arith)))
          ] in (
            lt,
            record {
              low = omega arith;
              high = omega arith;
              before = λ k low high.
                  let place : i + (k - i) ≡ k = omega arith in
                  let unset : get_or kinds (k - i) false ≡ false = unmarked _ (sym (first.2 (k - i) (omega arith)) ∙ bit (k - i)) in
                  ap (λ j. p (get_or xs j 0)) (sym place) ∙ (sym (lane (k - i) (omega arith)) ∙ unset);
              hit = λ _. sym (lane z lt) ∙ set;
            },
          );
    }

-- a byte that none stands before
pub first_at_place : (byte : ℕ) (bytes : List ℕ) (at n place : ℕ) → at + n ≤ length bytes → HoldsNowhere (λ k. is_byte byte (get_or bytes k 0)) 0 at → place < at + n →
    IsFirstPlace (λ k. is_byte byte (get_or bytes k 0)) at (at + n) place → IsFirstByte (is_byte byte) bytes (Some place)
first_at_place byte bytes at n place room none lt is = (
  record {
    low = omega arith;
    high = omega arith;
    before = λ k low high holds. elim (cases_lt k at) [
      | inl before ↦ true≢false (sym holds ∙ none k low before)
      | inr behind ↦ true≢false (sym holds ∙ is.before k behind high)
    ];
  },
  is.hit lt,
)

-- what a search of those behind found
pub none_behind : (byte : ℕ) (bytes : List ℕ) (at : ℕ) → at ≤ length bytes → HoldsNowhere (λ k. is_byte byte (get_or bytes k 0)) 0 at →
    IsFirstByte (is_byte byte) (drop at bytes) None → IsFirstByte (is_byte byte) bytes None
none_behind byte bytes at within none found k low high holds = elim (cases_lt k at) [
  | inl before ↦ true≢false (sym holds ∙ none k low before)
  | inr behind ↦
      let place : at + (k - at) ≡ k = omega arith in
      let read : get_or (drop at bytes) (k - at) 0 ≡ get_or bytes k 0 = get_or-drop at bytes (k - at) 0 ∙ ap (λ j. get_or bytes j 0) place in
      found (k - at) (omega arith) (omega (arith, length-drop at bytes)) (ap (is_byte byte) read ∙ holds)
]

pub some_behind : (byte : ℕ) (bytes : List ℕ) (at i : ℕ) → at ≤ length bytes → HoldsNowhere (λ k. is_byte byte (get_or bytes k 0)) 0 at →
    IsFirstByte (is_byte byte) (drop at bytes) (Some i) → IsFirstByte (is_byte byte) bytes (Some (at + i))
some_behind byte bytes at i within none found = (
  record {
    low = omega arith;
    high = omega (arith, found.0.high, length-drop at bytes);
    before = λ k low high holds. elim (cases_lt k at) [
      | inl before ↦ true≢false (sym holds ∙ none k low before)
      | inr behind ↦
          let place : at + (k - at) ≡ k = omega arith in
          let read : get_or (drop at bytes) (k - at) 0 ≡ get_or bytes k 0 = get_or-drop at bytes (k - at) 0 ∙ ap (λ j. get_or bytes j 0) place in
          found.0.before (k - at) (omega arith) (omega arith) (ap (is_byte byte) read ∙ holds)
    ];
  },
  sym (ap (is_byte byte) (get_or-drop at bytes i 0)) ∙ found.1,
)
