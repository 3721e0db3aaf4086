-- From the marks of bytes to the places that they tell.
use Rattle.std.proofs.Common.{◌≡◌, ℕ, ◌+◌, ◌-◌, ◌*◌, ◌/◌, ◌%◌, ◌^◌, ◌<◌, ◌≤◌, Bool, true, false, cond, ◌||◌, List, map, length, get_or, refl, sym, ap, subst, ◌∙◌, arith}
use Rattle.std.specs.Int.{bit_at}
use Rattle.std.proofs.Math.Pow.{pow-lt}
use Rattle.std.proofs.lemmas.Nat.{shr-shr}
use Rattle.std.proofs.Math.Nat.{mod-eq_of_lt}
use Rattle.std.proofs.lemmas.Simd.{map-map, mask_l-mod, get_or-chunk, bit_mask_l}
use Rattle.std.proofs.lemmas.List.{length-map, get_or-map, get_or_past}
use lib.Bits.{bit_and, bit_or}
use lib.Lanes.{chunk, mask_l, top}
use Rattle.awk_text.specs.support.Stretch.{AreMarks, is_kind_at}
use Rattle.awk_text.proofs.Bits.{masked_below, masked_above}

-- what a lane is that was compared with one byte, two, or three
pub of_one : (p : Bool) → top 7 (cond p 255 0) ≡ p
of_one true = refl
of_one false = refl

pub of_two : (p q : Bool) → top 7 (bit_or (cond p 255 0) (cond q 255 0)) ≡ p || q
of_two true true = refl
of_two true false = refl
of_two false true = refl
of_two false false = refl

pub of_three : (p q r : Bool) → top 7 (bit_or (bit_or (cond p 255 0) (cond q 255 0)) (cond r 255 0)) ≡ p || (q || r)
of_three true true true = refl
of_three true true false = refl
of_three true false true = refl
of_three true false false = refl
of_three false true true = refl
of_three false true false = refl
of_three false false true = refl
of_three false false false = refl

-- the lanes' top bits mark the bytes of a kind
pub marks_of_lanes : (q : ℕ → Bool) (v : List ℕ) (n m : ℕ) (z : List ℕ) (f : ℕ → ℕ) → length v ≡ n → n ≤ 64 → m ≡ mask_l (map (top 7) z) % 2 ^ 64 → z ≡ map f v → ((x : ℕ) → top 7 (f x) ≡ q x)
    → AreMarks (is_kind_at q v) 0 n m
marks_of_lanes q v n m z f long few is lanes tells =
    let kinds = map (λ x. top 7 (f x)) v in
    let size : length kinds ≡ n = length-map v (λ x. top 7 (f x)) ∙ long in
    let mask : m ≡ mask_l kinds =
    is ∙ (ap (λ (l : List Bool). mask_l l % 2 ^ 64) (ap (map (top 7)) lanes ∙ map-map (top 7) f v) ∙ mask_l-mod kinds 64 (omega arith)) in
    let bit : (k : ℕ) → bit_at m k ≡ cond (get_or kinds k false) 1 0 = λ k. ap (λ (x : ℕ). bit_at x k) mask ∙ bit_mask_l kinds k in
    record {
      each = λ k lt.
          let place : k ≡ 0 + k = omega arith in
          bit k
          ∙ ap (λ (b : Bool). cond b 1 0)
          (get_or-map (λ x. top 7 (f x)) v k 0 false (omega arith) ∙ (tells (get_or v k 0) ∙ ap (λ j. q (get_or v j 0)) place));
      none = λ k le. bit k ∙ ap (λ (b : Bool). cond b 1 0) (get_or_past kinds k false (omega arith));
    }

-- the bytes that were looked at are those of the text from a place on
pub marks_of_chunk : (q : ℕ → Bool) (d : List ℕ) (i n m : ℕ) → AreMarks (is_kind_at q (chunk i n d)) 0 n m → AreMarks (is_kind_at q d) i n m
marks_of_chunk q d i n m marks = record {
  each = λ k lt.
      let place : 0 + k ≡ k = omega arith in
      marks.each k lt ∙ ap (λ (b : Bool). cond b 1 0) (ap (λ j. q (get_or (chunk i n d) j 0)) place ∙ ap q (get_or-chunk i n d k 0 lt));
  none = marks.none;
}

-- those of the first of them
pub marks_in_front : (test : ℕ → Bool) (i n w m : ℕ) → w ≤ n → AreMarks test i n m → AreMarks test i w (bit_and m (2 ^ w - 1))
marks_in_front test i n w m le marks = record {
  each = λ k lt. masked_below m w k lt ∙ marks.each k (omega arith);
  none = λ k high. masked_above m w k high;
}

-- those of the last of them
pub marks_behind : (test : ℕ → Bool) (i n m by from : ℕ) → i + by ≡ from → by ≤ n → AreMarks test i n m → AreMarks test from (n - by) (m / 2 ^ by)
marks_behind test i n m by from place le marks = record {
  each = λ k lt.
      let sum : i + (by + k) ≡ from + k = omega arith in
      ap (λ (x : ℕ). x % 2) (shr-shr m by k) ∙ (marks.each (by + k) (omega arith) ∙ ap (λ (j : ℕ). cond (test j) 1 0) sum);
  none = λ k low. ap (λ (x : ℕ). x % 2) (shr-shr m by k) ∙ marks.none (by + k) (omega arith);
}

-- the last of those of the bytes up to the end
pub marks_to_end : (q : ℕ → Bool) (d : List ℕ) (n m at left : ℕ) → n ≤ length d → length d < at + n → at + left ≡ length d →
    AreMarks (is_kind_at q (chunk (length d - n) n d)) 0 n m → AreMarks (is_kind_at q d) at left (m / 2 ^ (at - (length d - n)))
marks_to_end q d n m at left room few whole marks =
    let by = at - (length d - n) in
    let size : n - by ≡ left = omega arith in
    let behind = marks_behind (is_kind_at q d) (length d - n) n m by at (omega arith) (omega arith) (marks_of_chunk q d (length d - n) n m marks) in
    subst (λ k. AreMarks (is_kind_at q d) at k (m / 2 ^ by)) size behind

-- of a text that was put into a larger room
pub marks_of_room : (q : ℕ → Bool) (d room : List ℕ) (n m : ℕ) → length d ≤ n → length d < 64 → ((k : ℕ) → k < length d → get_or room k 0 ≡ get_or d k 0) →
    AreMarks (is_kind_at q room) 0 n m → AreMarks (is_kind_at q d) 0 (length d) (bit_and m (1 * 2 ^ length d % 2 ^ 64 - 1))
marks_of_room q d room n m le small same marks =
    let w = length d in
    let bound : 2 ^ w < 2 ^ 64 = pow-lt small in
    let fits : 1 * 2 ^ w < 2 ^ 64 = omega arith in
    let one : 1 * 2 ^ w ≡ 2 ^ w = omega arith in
    let mask : 1 * 2 ^ w % 2 ^ 64 - 1 ≡ 2 ^ w - 1 = ap (λ (x : ℕ). x - 1) (mod-eq_of_lt fits ∙ one) in
    let front = marks_in_front (is_kind_at q room) 0 n w m le marks in
    record {
      each = λ k lt.
          let place : 0 + k ≡ k = omega arith in
          ap (λ (x : ℕ). bit_at (bit_and m x) k) mask
          ∙ (front.each k lt ∙ ap (λ (b : Bool). cond b 1 0) (ap (λ j. q (get_or room j 0)) place ∙ (ap q (same k lt) ∙ ap (λ j. q (get_or d j 0)) (sym place))));
      none = λ k high. ap (λ (x : ℕ). bit_at (bit_and m x) k) mask ∙ front.none k high;
    }
