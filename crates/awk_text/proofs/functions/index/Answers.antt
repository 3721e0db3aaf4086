use Rattle.std.proofs.Common.{◌≡◌, ℕ, ◌+◌, ◌<◌, List, length, subst, arith, rules}
use Rattle.memchr.specs.Find.{OccursAt, Nowhere, NoneBefore}
use Rattle.awk_text.specs.definitions.Functions.{IsPositionOf}
use Rattle.awk_text.proofs.functions.index.Goals as goal

stands_first : (part text : List ℕ) (before : ℕ) → 0 < length part → NoneBefore (OccursAt text part) 0 (length text + 1) before → OccursAt text part before → IsPositionOf part text (before + 1)
stands_first part text before full first here = record {
  stands = λ j e. let same : before ≡ j = omega arith in (full, subst (OccursAt text part) same here, λ i lt occurs. first.before i (omega arith) (omega arith) occurs);
  absent = λ e n i o. absurd (omega arith);
}

stands_nowhere : (part text : List ℕ) → Nowhere (OccursAt text part) 0 (length text + 1) → IsPositionOf part text 0
stands_nowhere part text none = record {
  stands = λ j e. absurd (omega arith);
  absent = λ e n i o. none i (omega arith) (omega (arith, o.fits)) o;
}

pub returns-in-Some : goal.returns-in-Some
returns-in-Some c = stands_first c.args.part.now c.args.text.now c.in-Some.before (search rules) c.in-Some.ensures.0 c.in-Some.ensures.1

pub returns-in-None : goal.returns-in-None
returns-in-None c = stands_nowhere c.args.part.now c.args.text.now c.in-None.ensures
