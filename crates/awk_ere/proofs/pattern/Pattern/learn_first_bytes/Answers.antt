use Rattle.std.proofs.Common.{◌≡◌, ℕ, ◌+◌, ◌<◌, ◌≤◌, true, false, sym, ◌∙◌, subst, ⊎_elim, arith}
use Rattle.std.proofs.lemmas.Bool.{cases_lt, false≢true}
use Rattle.awk_ere.specs.support.Layout.{byte_count}
use Rattle.awk_ere.specs.support.SimulationStep.{IsStillAt}
use Rattle.awk_ere.specs.support.Table.{Serves, is_first, AreFirst}
use Rattle.awk_ere.specs.declared.pattern.Pattern.{Pattern}
use Rattle.awk_ere.specs.declared.scratch.Scratch.{Scratch}
use Rattle.awk_ere.specs.declared.first_bytes.FirstBytes.{FirstBytes}
use Rattle.awk_ere.proofs.CursorKept.{known_dead, still_of}
use Rattle.awk_ere.proofs.pattern.Pattern.learn_first_bytes.Goals as goal
use Rattle.awk_ere.proofs.pattern.Pattern.learn_first_bytes.Goals.{else-loop-byte-test, then-loop-byte-test+else-byte-lt255, then-entry-ne-DEAD+in_default, else-entry-ne-DEAD}

-- below n, nothing begins with another byte
abbrev StillBelow : Pattern → FirstBytes → ℕ → Type 0
StillBelow p f n = (x : ℕ) → x < n → is_first f x ≡ false → IsStillAt p true x

one_more : (p : Pattern) (old new : FirstBytes) (byte n : ℕ) → n ≤ byte + 1 → StillBelow p old byte → ((x : ℕ) → is_first new x ≡ false → is_first old x ≡ false) → (is_first new byte ≡ false → IsStillAt p true byte) → StillBelow p new n
one_more p old new byte n le still same here x lt none =
    ⊎_elim (λ below. still x below (same x none))
    (λ ge. let e : byte ≡ x = omega (arith, ge, lt, le) in subst (λ y. is_first new y ≡ false → IsStillAt p true y) e here none)
    (cases_lt x byte)

learned : (p : Pattern) (s : Scratch) (f : FirstBytes) → Serves s p → AreFirst f p → Serves (record s { first_bytes = f }) p
learned p s f h first = record {
  position_set = h.position_set;
  table = h.table;
  anchored_at_start = h.anchored_at_start;
  begins_at_start = h.begins_at_start;
  literal = h.literal;
  first_bytes = first;
  required = h.required;
}

pub entry-requires-clause-known : goal.entry-requires-clause-known
entry-requires-clause-known c = known_dead c.args.self.now c.loop-byte.scratch.table c.loop-byte.invariant.same.table

pub loop-byte-preserved : goal.loop-byte-preserved
loop-byte-preserved c =
    let p = c.args.self.now in
    let byte = c.loop-byte.byte in
    let old = c.loop-byte.first in
    record {
      same = c.entry.ensures.same;
      still =
          elim c.if-entry-ne-DEAD.branch [
            | then-entry-ne-DEAD+in_default w ↦ subst (λ f. StillBelow p f (byte + 1)) (sym w.first-is)
                (one_more p old w.with-first.result byte (byte + 1) (omega arith) c.loop-byte.invariant.still w.with-first.ensures.same
                (λ none. absurd (false≢true (sym none ∙ w.with-first.ensures.more))))
            | else-entry-ne-DEAD w ↦ subst (λ f. StillBelow p f (byte + 1)) (sym w.first-is)
                (one_more p old old byte (byte + 1) (omega arith) c.loop-byte.invariant.still (λ x h. h)
                (λ none. still_of p c.loop-byte.scratch.table c.entry.new.scratch.table true byte c.entry.result c.loop-byte.invariant.same.table c.entry.ensures.same.table c.entry.ensures.entry w.if-entry-ne-DEAD.false))
          ];
    }

pub returns : goal.returns
returns c =
    let p = c.args.self.now in
    let byte = c.loop-byte.byte in
    let old = c.loop-byte.first in
    record {
      same =
          elim c.loop-byte-test.branch [
            | else-loop-byte-test w ↦ learned p c.loop-byte-test.scratch c.loop-byte-test.first
                (subst (λ s. Serves s p) (sym w.scratch-is) c.loop-byte.invariant.same)
                (subst (λ f. AreFirst f p) (sym w.first-is)
                (λ x lt none. c.loop-byte.invariant.still x (omega (arith, lt, w.loop-byte-test.false)) none))
            | then-loop-byte-test+else-byte-lt255 w ↦ learned p c.loop-byte-test.scratch c.loop-byte-test.first
                (subst (λ s. Serves s p) (sym w.scratch-is) w.entry.ensures.same)
                (subst (λ f. AreFirst f p) (sym w.first-is)
                (elim w.if-entry-ne-DEAD.branch [
                  | then-entry-ne-DEAD+in_default v ↦ subst (λ f. AreFirst f p) (sym v.first-is)
                      (one_more p old v.with-first.result byte byte_count (omega arith) c.loop-byte.invariant.still v.with-first.ensures.same
                      (λ none. absurd (false≢true (sym none ∙ v.with-first.ensures.more))))
                  | else-entry-ne-DEAD v ↦ subst (λ f. AreFirst f p) (sym v.first-is)
                      (one_more p old old byte byte_count (omega arith) c.loop-byte.invariant.still (λ x h. h)
                      (λ none. still_of p c.loop-byte.scratch.table w.entry.new.scratch.table true byte w.entry.result c.loop-byte.invariant.same.table w.entry.ensures.same.table w.entry.ensures.entry v.if-entry-ne-DEAD.false))
                ]))
          ];
    }
