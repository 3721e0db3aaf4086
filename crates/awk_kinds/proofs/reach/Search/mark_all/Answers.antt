use Rattle.std.proofs.Common.{◌≡◌, inl, inr, arith, subst, sym, ◌∙◌, get_or}
use Rattle.std.proofs.lemmas.List.{get_or_default}
use Rattle.std.proofs.lemmas.List.Elements.{Contains-get_or}
use Rattle.std.proofs.lemmas.Bool.{cases_lt}
use Rattle.std.specs.List.{Contains}
use Rattle.awk_kinds.specs.support.Search.{IsMarked}
use Rattle.awk_kinds.proofs.Searching.{marks_none, marks_then}
use Rattle.awk_kinds.proofs.reach.Search.mark_all.Goals as goal

pub loop-v-init : goal.loop-v-init
loop-v-init c = record { marks = marks_none _ _; marked = λ k h. absurd (omega (arith, h)) }

pub mark-requires : goal.mark-requires
mark-requires c = rw c.loop-v.invariant.marks.long (c.requires _ (Contains-get_or c.args.list.now c.loop-v.v-index 0 c.loop-v-test.true))

pub loop-v-preserved : goal.loop-v-preserved
loop-v-preserved c = record {
  marks = marks_then c.loop-v.invariant.marks c.in_ok-mark.ensures.marks (λ v e. subst (λ x. Contains c.args.list.now x) (sym e) (Contains-get_or c.args.list.now c.loop-v.v-index 0 c.loop-v-test.true));
  marked = λ k h. elim (cases_lt k c.loop-v.v-index) [
    | inl before ↦ c.in_ok-mark.ensures.marks.kept _ (c.loop-v.invariant.marked k before)
    | inr after ↦ (let e : k ≡ c.loop-v.v-index = omega (arith, after, h) in subst (λ j. IsMarked c.mark.new.self (get_or c.args.list.now j 0)) (sym e) c.in_ok-mark.ensures.marked)
  ];
}

pub returns : goal.returns
returns c = record {
  marks = c.loop-v.invariant.marks;
  marked = λ v h. subst (λ x. IsMarked c.loop-v.self x) (get_or_default c.args.list.now h.0 0 v h.1 ∙ h.2) (c.loop-v.invariant.marked h.0 (omega (arith, h.1)));
}
