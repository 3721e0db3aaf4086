use Rattle.std.proofs.Common.{◌≡◌, ℕ, ◌+◌, ◌<◌, List, length, get_or, Option, None, Some, sym, ap, ◌∙◌, arith}
use Rattle.std.proofs.lemmas.Bool.{eq-eqb, eqb-true}
use Rattle.memchr.specs.Find.{FindsNeedle, IsFirstByte, OccursAt, is_byte}
use Rattle.awk_text.proofs.functions.find_part.Goals as goal

-- a part of one byte stands where the byte does
occurs_reads : (text part : List ℕ) (k : ℕ) → length part ≡ 1 → OccursAt text part k → get_or text k 0 ≡ get_or part 0 0
occurs_reads text part k one occurs =
    let place : k + 0 ≡ k = omega arith in
    ap (λ (i : ℕ). get_or text i 0) (sym place) ∙ occurs.reads 0 (omega arith)

reads_occurs : (text part : List ℕ) (k : ℕ) → length part ≡ 1 → k < length text → get_or text k 0 ≡ get_or part 0 0 → OccursAt text part k
reads_occurs text part k one lt is = record {
  fits = omega arith;
  reads = λ j few.
      let first : j ≡ 0 = omega arith in
      let place : k + j ≡ k = omega arith in
      ap (λ (i : ℕ). get_or text i 0) place ∙ (is ∙ ap (λ (i : ℕ). get_or part i 0) (sym first));
}

byte_is_part : (text part : List ℕ) (found : Option ℕ) → length part ≡ 1 → IsFirstByte (is_byte (get_or part 0 0)) text found → FindsNeedle text part 0 found
byte_is_part text part None one none = λ k low high occurs.
    none k low (omega (arith, occurs.fits)) (eq-eqb (get_or text k 0) (get_or part 0 0) (occurs_reads text part k one occurs))
byte_is_part text part (Some i) one found = (
  record {
    low = found.0.low;
    high = omega (arith, found.0.high);
    before = λ k low lt occurs. found.0.before k low lt (eq-eqb (get_or text k 0) (get_or part 0 0) (occurs_reads text part k one occurs));
  },
  reads_occurs text part i one found.0.high (eqb-true (get_or text i 0) (get_or part 0 0) found.1),
)

pub returns-in-len1 : goal.returns-in-len1
returns-in-len1 c =
    let one : length c.args.part.now ≡ 1 = omega (arith, c.in-len1.len_at_least, c.in-len1.len_below) in
    byte_is_part c.args.text.now c.args.part.now c.memchr.result one c.memchr.ensures
