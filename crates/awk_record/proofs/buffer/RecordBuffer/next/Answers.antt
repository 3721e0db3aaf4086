use Rattle.std.proofs.Common.{◌≡◌, ◌∙◌, Ok, refl, sym, ap, subst, List, ℕ, ◌-◌, take, drop, length, arith}
use Rattle.awk_record.specs.definitions.Buffer.{Pending, Steps}
use Rattle.awk_record.specs.definitions.Cut.{BrokenOff, NoMore, TooLong}
use Rattle.awk_record.specs.declared.buffer.Step.TheVariants.{Record, NeedMore}
use Rattle.awk_record.proofs.NextAnswersSteps.{Steps-seen, Steps-waits, Steps-breaks, found_unbroken, something_met}
use Rattle.awk_record.proofs.RecordAtHand.{cut_is}
use Rattle.awk_record.proofs.ResumedSearches.{unfinished_known, searched_kept}
use Rattle.awk_record.proofs.buffer.RecordBuffer.next.Goals as goal

pub invariant_of-self-in-Open : goal.invariant_of-self-in-Open
invariant_of-self-in-Open c =
    let b = c.self.inside in
    let held = c.as_slice-held.result.now in
    searched_kept b.held held c.args.separator.now record { skipped = c.in-Unfinished.skipped; searched = length held } c.keep.new.self c.as_slice-held.ensures c.in-Unfinished.ensures.within (omega arith)
    c.in_ok-keep-in-Open.ensures.separator c.in_ok-keep-in-Open.ensures.progress
    (unfinished_known c.args.separator.now held _ c.in-Unfinished.skipped c.in-Unfinished.ensures.value c.in-Unfinished.ensures.skips)

pub returns-in-Empty-clause-steps : goal.returns-in-Empty-clause-steps
returns-in-Empty-clause-steps c = λ _.
    let b = c.self.inside in
    Steps-seen c.args.separator.now c.as_slice-held.result.now b.held b.supply _ c.args.self.now _ _ NoMore
    c.in-Empty.ensures.value c.at_end.ensures c.as_slice-held.ensures c.self.view_is (λ (bad : NoMore ≡ BrokenOff). cc)
    (refl, c.take_all.ensures.bytes, c.take_all.ensures.ending ∙ sym (ap (λ (p : Pending). p.ending) c.self.view_is))

pub returns-in-Over-clause-steps : goal.returns-in-Over-clause-steps
returns-in-Over-clause-steps c = λ _.
    let b = c.self.inside in
    Steps-seen c.args.separator.now c.as_slice-held.result.now b.held b.supply _ c.args.self.now _ _ TooLong
    c.in-Over.ensures.value c.at_end.ensures c.as_slice-held.ensures c.self.view_is (λ (bad : TooLong ≡ BrokenOff). cc) (refl, refl)

pub returns-in_ok-keep-in-Open-clause-steps : goal.returns-in_ok-keep-in-Open-clause-steps
returns-in_ok-keep-in-Open-clause-steps c = λ _.
    let b = c.self.inside in
    subst (λ (new : Pending). Steps c.args.separator.now c.args.self.now (Ok NeedMore) new) (sym c.self.view_is)
    (Steps-waits c.args.separator.now c.as_slice-held.result.now b.held b.supply _ c.args.self.now
    c.in-Unfinished.ensures.value c.at_end.ensures c.as_slice-held.ensures c.self.view_is c.in-Open.is)

pub returns-in_ok-record-in-Stretch-clause-steps : goal.returns-in_ok-record-in-Stretch-clause-steps
returns-in_ok-record-in-Stretch-clause-steps c = λ _.
    let b = c.self.inside in
    let from = c.in-Stretch.from in
    let to = c.in-Stretch.to in
    Steps-seen c.args.separator.now c.as_slice-held.result.now b.held b.supply _ c.args.self.now _ _ _
    c.in-Stretch.ensures.value c.at_end.ensures c.as_slice-held.ensures c.self.view_is (found_unbroken _ _) (
      ap (λ (t : List ℕ). Ok (Record t)) (c.in_ok-record-in-Stretch.ensures ∙ (cut_is b.held from to c.in-Stretch.ensures.within.0 ∙ ap (λ (s : List ℕ). take (to - from) (drop from s)) (sym c.as_slice-held.ensures))),
      c.advance.ensures ∙ ap (drop c.in-Stretch.next) (sym c.as_slice-held.ensures),
      refl,
    )

pub returns-in-Ended-clause-steps : goal.returns-in-Ended-clause-steps
returns-in-Ended-clause-steps c = λ _.
    let b = c.self.inside in
    Steps-breaks c.args.separator.now c.as_slice-held.result.now b.held b.supply _ c.args.self.now _
    c.in-Unfinished.ensures.value c.at_end.ensures c.as_slice-held.ensures c.self.view_is
    (something_met b.supply c.in-Ended.is) c.take_all-in-Ended.ensures.bytes
    (c.take_all-in-Ended.ensures.ending ∙ sym (ap (λ (p : Pending). p.ending) c.self.view_is))
