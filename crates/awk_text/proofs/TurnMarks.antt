-- From the marks of blanks to the places where blanks begin or end.
use Rattle.std.proofs.Common.{◌≡◌, ℕ, zero, suc, ◌+◌, ◌-◌, ◌*◌, ◌/◌, ◌%◌, ◌^◌, ◌<◌, ◌≤◌, Bool, true, false, cond, ◌||◌, not, List, length, get_or, refl, sym, ap, subst, ◌∙◌, arith, inl, inr}
use Rattle.std.specs.Prelude.{max}
use Rattle.std.specs.Int.{bit_at}
use Rattle.std.proofs.lemmas.Bool.{cases_lt, eq-eqb, ne_eqb, false≢true}
use Rattle.std.proofs.lemmas.Nat.Bits.{bit_at-zero, bit_at_lowest, bit_at_or, bit_at_xor, bit_at_above, bit_at_cat_low, bit_at_cat_high, shr_and_one, ones_shr}
use lib.Bits.{bit_and}
use Rattle.std.specs.Int.RustNames.{bit_or, bit_xor}
use Rattle.awk_text.specs.declared.marks.Marks.{Marks}
use Rattle.awk_text.specs.declared.marks.Turns.{Turns}
use Rattle.awk_text.specs.definitions.Pieces.{is_blank_or_newline}
use Rattle.awk_text.specs.support.Stretch.{AreMarks, is_kind_at}
use Rattle.awk_text.specs.support.MarksLeft.{AreLeft, AreTurnsLeft, is_turn, is_behind_blank}
use Rattle.awk_text.proofs.Bits.{mod_below, masked_below, masked_above}
use Rattle.awk_text.proofs.MarksLeft.{left_further}

cond_below : (b : Bool) → cond {A = ℕ} b 1 0 < 2
cond_below true = omega arith
cond_below false = omega arith

-- a bit differs from the one before
differs : (p b : Bool) → (cond b 1 0 + cond p 1 0) % 2 ≡ cond (cond p (not b) b) 1 0
differs true true = refl
differs true false = refl
differs false true = refl
differs false false = refl

-- behind the first place stands a byte of the text
pub behind_later : (text : List ℕ) (first place : ℕ) → first < place → is_behind_blank text first place ≡ is_blank_or_newline (get_or text (place - 1) 0)
behind_later text first place lt = ap (λ (b : Bool). b || is_blank_or_newline (get_or text (place - 1) 0)) (ne_eqb place first (λ e. omega arith))

pub behind_first : (text : List ℕ) (first : ℕ) → is_behind_blank text first first ≡ true
behind_first text first = ap (λ (b : Bool). b || is_blank_or_newline (get_or text (first - 1) 0)) (eq-eqb first first refl)

module _ (text : List ℕ) (first at n b : ℕ) (low : first ≤ at) (few : n ≤ 64) (marks : AreMarks (is_kind_at is_blank_or_newline text) at n b) where
  -- the marks of the bytes before
  module _ (before : ℕ) (is : before ≡ cond (is_behind_blank text first at) 1 0) where
    lowest : bit_at (bit_or (b * 2 ^ 1 % 2 ^ 64) before) 0 ≡ before
    lowest =
        let less : before < 2 = omega (arith, is, cond_below (is_behind_blank text first at)) in
        let product : b * 2 ^ 1 ≡ b * 2 ^ 1 + 0 = omega arith in
        let none : bit_at (b * 2 ^ 1 % 2 ^ 64) 0 ≡ 0 = mod_below (b * 2 ^ 1) 64 0 (omega arith) ∙ (ap (λ (x : ℕ). bit_at x 0) product ∙ (bit_at_cat_low b 1 0 0 (omega arith) ∙ bit_at-zero 0)) in
        let one : bit_at before 0 ≡ before = bit_at_lowest before ∙ omega arith in
        bit_at_or (b * 2 ^ 1 % 2 ^ 64) before 0 ∙ max_right _ _ _ none one
      where
        max_right : (x y z : ℕ) → x ≡ 0 → y ≡ z → max x y ≡ z
        max_right x y z none same = omega arith

    higher : (k : ℕ) → 0 < k → k < 64 → bit_at (bit_or (b * 2 ^ 1 % 2 ^ 64) before) k ≡ bit_at b (k - 1)
    higher k some lt =
        let less : before < 2 ^ 1 = omega (arith, is, cond_below (is_behind_blank text first at)) in
        let product : b * 2 ^ 1 ≡ b * 2 ^ 1 + 0 = omega arith in
        let same : bit_at (b * 2 ^ 1 % 2 ^ 64) k ≡ bit_at b (k - 1) = mod_below (b * 2 ^ 1) 64 k lt ∙ (ap (λ (x : ℕ). bit_at x k) product ∙ bit_at_cat_high b 1 0 k (omega arith) (omega arith)) in
        let none : bit_at before k ≡ 0 = bit_at_above before 1 k less (omega arith) in
        bit_at_or (b * 2 ^ 1 % 2 ^ 64) before k ∙ max_left _ _ _ same none
      where
        max_left : (x y z : ℕ) → x ≡ z → y ≡ 0 → max x y ≡ z
        max_left x y z same none = omega arith

    bit_before : (k : ℕ) → k < n → bit_at (bit_or (b * 2 ^ 1 % 2 ^ 64) before) k ≡ cond (is_behind_blank text first (at + k)) 1 0
    bit_before k lt = elim (cases_lt 0 k) as (λ _. bit_at (bit_or (b * 2 ^ 1 % 2 ^ 64) before) k ≡ cond (is_behind_blank text first (at + k)) 1 0) [
      | inl some ↦
          let place : at + (k - 1) ≡ at + k - 1 = omega arith in
          higher k some (omega arith)
          ∙ (marks.each (k - 1) (omega arith)
          ∙ ap (λ (x : Bool). cond x 1 0) (ap (λ j. is_blank_or_newline (get_or text j 0)) place ∙ sym (behind_later text first (at + k) (omega arith))))
      | inr none ↦
          let front : k ≡ 0 = omega arith in
          let place : at ≡ at + k = omega arith in
          ap (bit_at (bit_or (b * 2 ^ 1 % 2 ^ 64) before)) front ∙ (lowest ∙ (is ∙ ap (λ j. cond (is_behind_blank text first j) 1 0) place))
    ]

    -- where they differ, blanks begin or end
    pub marked_turns : AreMarks (is_turn text first) at n (bit_and (bit_xor b (bit_or (b * 2 ^ 1 % 2 ^ 64) before)) (2 ^ n - 1))
    marked_turns =
        let shifted = bit_or (b * 2 ^ 1 % 2 ^ 64) before in
        record {
          each = λ k lt.
              masked_below (bit_xor b shifted) n k lt
              ∙ (bit_at_xor b shifted k
              ∙ (ap (λ (x : ℕ). (x + bit_at shifted k) % 2) (marks.each k lt)
              ∙ (ap (λ (x : ℕ). (cond (is_blank_or_newline (get_or text (at + k) 0)) 1 0 + x) % 2) (bit_before k lt)
              ∙ differs (is_behind_blank text first (at + k)) (is_blank_or_newline (get_or text (at + k) 0)))));
          none = λ k le. masked_above (bit_xor b shifted) n k le;
        }

  -- whether the last of the bytes is a blank
  pub last_is_blank : 0 < n → bit_and (b / 2 ^ (n - 1)) 1 ≡ cond (is_behind_blank text first (at + n)) 1 0
  last_is_blank some =
      let place : at + (n - 1) ≡ at + n - 1 = omega arith in
      shr_and_one b (n - 1)
      ∙ (marks.each (n - 1) (omega arith)
      ∙ ap (λ (x : Bool). cond x 1 0) (ap (λ j. is_blank_or_newline (get_or text j 0)) place ∙ sym (behind_later text first (at + n) (omega arith))))

-- nothing was looked at yet
pub turns_at_first : (text : List ℕ) (place : ℕ) (marks : Marks) → place ≤ length text → marks.end ≡ place → AreLeft (is_turn text place) place marks → AreTurnsLeft text place place (record { marks = marks; before = 1 })
turns_at_first text place marks le end left = record {
  high = omega arith;
  within = omega arith;
  before = sym (ap (λ k. cond (is_behind_blank text place k) 1 0) end ∙ ap (λ (b : Bool). cond b 1 0) (behind_first text place));
  marks = left;
}

-- the next bytes were looked at
pub turns_further : (text : List ℕ) (first from count b : ℕ) (left : Turns) → AreTurnsLeft text first from left → left.marks.bits ≡ 0 → 0 < count → count ≤ 64 → left.marks.end + count ≤ length text →
    AreMarks (is_kind_at is_blank_or_newline text) left.marks.end count b →
    AreTurnsLeft text first from (record {
      marks = record {
        base = left.marks.end;
        bits = bit_and (bit_xor b (bit_or (b * 2 ^ 1 % 2 ^ 64) left.before)) ((2 ^ 64 - 1) / 2 ^ (64 - count));
        end = left.marks.end + count;
      };
      before = bit_and (b / 2 ^ (count - 1)) 1;
    })
turns_further text first from count b left are none some few within marks =
    let low : first ≤ left.marks.end = omega (arith, are.high, are.marks.high) in
    let shifted = bit_xor b (bit_or (b * 2 ^ 1 % 2 ^ 64) left.before) in
    let size : 64 - (64 - count) ≡ count = omega arith in
    let mask : (2 ^ 64 - 1) / 2 ^ (64 - count) ≡ 2 ^ count - 1 = ones_shr 64 (64 - count) (omega arith) ∙ ap (λ (w : ℕ). 2 ^ w - 1) size in
    record {
      high = are.high;
      within = within;
      before = last_is_blank text first left.marks.end count b low few marks some;
      marks = left_further (is_turn text first) from left.marks count _ are.marks none
          (subst (λ (x : ℕ). AreMarks (is_turn text first) left.marks.end count (bit_and shifted x)) (sym mask) (marked_turns text first left.marks.end count b low few marks left.before are.before));
    }

-- the next place was given
pub turns_behind : (text : List ℕ) (first from place : ℕ) (left : Turns) (rest : Marks) → AreTurnsLeft text first from left → from ≤ place → rest.end ≡ left.marks.end → AreLeft (is_turn text first) (place + 1) rest →
    AreTurnsLeft text first (place + 1) (record { marks = rest; before = left.before })
turns_behind text first from place left rest are low end marks =
    let high : first ≤ from = are.high in
    let within : left.marks.end ≤ length text = are.within in
    record {
      high = omega arith;
      within = omega arith;
      before = are.before ∙ ap (λ k. cond (is_behind_blank text first k) 1 0) (sym end);
      marks = marks;
    }

-- where blanks neither begin nor end
module _ (text : List ℕ) (first from place : ℕ) (low : first ≤ from) (b : Bool) (front : is_behind_blank text first from ≡ b) (none : (k : ℕ) → from ≤ k → k < place → is_turn text first k ≡ false) where
  unturned : (c d : Bool) → cond c (not d) d ≡ false → c ≡ b → d ≡ b
  unturned true true e is = is
  unturned true false e is = absurd (false≢true (sym e))
  unturned false true e is = absurd (false≢true (sym e))
  unturned false false e is = is

  pub same_at : (k : ℕ) → from ≤ k → k < place → is_behind_blank text first k ≡ b → is_blank_or_newline (get_or text k 0) ≡ b
  same_at k le lt is = unturned (is_behind_blank text first k) (is_blank_or_newline (get_or text k 0)) (none k le lt) is

  behind_at : (n : ℕ) → from + n ≤ place → is_behind_blank text first (from + n) ≡ b
  behind_at zero le = ap (is_behind_blank text first) (omega arith) ∙ front
  behind_at (suc n) le =
      let place : from + suc n - 1 ≡ from + n = omega arith in
      behind_later text first (from + suc n) (omega arith)
      ∙ (ap (λ k. is_blank_or_newline (get_or text k 0)) place ∙ same_at (from + n) (omega arith) (omega arith) (behind_at n (omega arith)))

  pub still_behind : (k : ℕ) → from ≤ k → k ≤ place → is_behind_blank text first k ≡ b
  still_behind k le high = let sum : from + (k - from) ≡ k = omega arith in ap (is_behind_blank text first) (sym sum) ∙ behind_at (k - from) (omega arith)

  pub all_same : (k : ℕ) → from ≤ k → k < place → is_blank_or_newline (get_or text k 0) ≡ b
  all_same k le lt = same_at k le lt (still_behind k le (omega arith))
