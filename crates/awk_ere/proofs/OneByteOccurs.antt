-- A text of one byte stands where the byte does.
use Rattle.std.proofs.Common.{◌≡◌, ℕ, ◌+◌, ◌<◌, List, length, get_or, Option, None, Some, sym, ap, ◌∙◌, arith}
use Rattle.std.proofs.lemmas.Bool.{eq-eqb, eqb-true}
use Rattle.memchr.specs.Find.{FindsNeedle, IsFirstByte, OccursAt, is_byte}

occurs_reads : (text part : List ℕ) (k : ℕ) → length part ≡ 1 → OccursAt text part k → get_or text k 0 ≡ get_or part 0 0
occurs_reads text part k one occurs =
    let place : k + 0 ≡ k = omega arith in
    ap (λ (i : ℕ). get_or text i 0) (sym place) ∙ occurs.reads 0 (omega arith)

reads_occurs : (text part : List ℕ) (k : ℕ) → length part ≡ 1 → k < length text → get_or text k 0 ≡ get_or part 0 0 → OccursAt text part k
reads_occurs text part k one lt is = record {
  fits = omega arith;
  reads = λ j few.
      let first : j ≡ 0 = omega arith in
      let place : k + j ≡ k = omega arith in
      ap (λ (i : ℕ). get_or text i 0) place ∙ (is ∙ ap (λ (i : ℕ). get_or part i 0) (sym first));
}

pub byte_is_text : (text part : List ℕ) (found : Option ℕ) → length part ≡ 1 → IsFirstByte (is_byte (get_or part 0 0)) text found → FindsNeedle text part 0 found
byte_is_text text part None one none = λ k low high occurs.
    none k low (omega (arith, occurs.fits)) (eq-eqb (get_or text k 0) (get_or part 0 0) (occurs_reads text part k one occurs))
byte_is_text text part (Some i) one found = (
  record {
    low = found.0.low;
    high = omega (arith, found.0.high);
    before = λ k low lt occurs. found.0.before k low lt (eq-eqb (get_or text k 0) (get_or part 0 0) (occurs_reads text part k one occurs));
  },
  reads_occurs text part i one found.0.high (eqb-true (get_or text i 0) (get_or part 0 0) found.1),
)
