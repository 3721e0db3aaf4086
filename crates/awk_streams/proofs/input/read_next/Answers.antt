use Rattle.std.proofs.Common.{◌≡◌, sym, ap, subst, Result, ◌∙◌, rules, Ok, Err, refl, inl}
use Rattle.awk_record.specs.Buffer.{Pending}
use Rattle.awk_record.specs.declared.buffer.Step.{Step}
use Rattle.awk_record.specs.declared.buffer.Step.TheVariants.{NeedMore}
use Rattle.awk_record.specs.declared.buffer_fault.BufferFault.{BufferFault}
use Rattle.awk_streams.specs.support.Pulls.{Brings, Pulls}
use Rattle.awk_streams.proofs.InputLemmas.{Reaches-more, ok_err, step_ending, pulls_lost}
use Rattle.awk_streams.proofs.GrowsLemmas.{Grows-then, not_failing, may_fail_later, Grows-self}
use Rattle.awk_streams.proofs.input.read_next.Goals as goal

pub loop-step-preserved : goal.loop-step-preserved
loop-step-preserved g c = record {
  same_open = λ j. c.in_ok-read_more.ensures.open j ∙ c.loop-step.invariant.same_open j;
  reaches = λ t.
      let more : c.in_ok-step.step ≡ NeedMore = c.is_need_more.ensures.0 c.if-not-is_need_more.false in
      let steps = c.in_ok-step.ensures.steps (ok_err _ _) in
      let waits = steps.only_then (ap Ok more) in
      let same = (steps.needs_more waits.0 waits.1).1 in
      let event = c.in_ok-read_more.ensures.read t in
      Reaches-more c.args.id c.args.separator.now c.args.buffer.now c.loop-step.buffer c.read_more.new.buffer _ _ _ event.0
      (c.loop-step.invariant.reaches t) waits.0 waits.1 event.1 (subst (λ (p : Pending). Brings c.args.id event.0 p c.read_more.new.buffer) same event.2);
  no_failure = λ t. c.in_ok-read_more.ensures.no_failure t ∙ c.loop-step.invariant.no_failure t;
  grows = λ t. Grows-then (c.loop-step.invariant.grows t) (c.in_ok-read_more.ensures.grows t);
}

pub returns-then-not-is_need_more-clause-pulls : goal.returns-then-not-is_need_more-clause-pulls
returns-then-not-is_need_more-clause-pulls g c = λ t. record {
  seen = c.loop-step.buffer;
  reads = c.loop-step.invariant.reaches t;
  ending = λ none. step_ending c.args.separator.now _ c.loop-step.buffer c.next.new.self c.in_ok-step.ensures.steps c.in_ok-step.ensures.memory none;
  steps = c.in_ok-step.ensures.steps;
}

pub returns-in_err-step-clause-pulls : goal.returns-in_err-step-clause-pulls
returns-in_err-step-clause-pulls g c = λ t.
    let is : c.from_residual.result ≡ Err c.in_err-step.field-0.0 = search rules in
    let here : Pulls c.args.id c.args.separator.now c.args.buffer.now (g.W.World.state c.args.world.now).log (Err c.in_err-step.field-0.0) c.next.new.self (g.W.World.state c.loop-step.world).log = record {
      seen = c.loop-step.buffer;
      reads = c.loop-step.invariant.reaches t;
      ending = λ none. step_ending c.args.separator.now _ c.loop-step.buffer c.next.new.self c.in_err-step.ensures.steps c.in_err-step.ensures.memory none;
      steps = c.in_err-step.ensures.steps;
    } in
    subst (λ (r : Result Step BufferFault). Pulls c.args.id c.args.separator.now c.args.buffer.now (g.W.World.state c.args.world.now).log r c.next.new.self (g.W.World.state c.loop-step.world).log) (sym is) here

pub returns-in_err-read_more-clause-pulls : goal.returns-in_err-read_more-clause-pulls
returns-in_err-read_more-clause-pulls g c = λ t.
    let is : c.from_residual-in_err-read_more.result ≡ Err c.in_err-read_more.field-0.0 = search rules in
    let more : c.in_ok-step.step ≡ NeedMore = c.is_need_more.ensures.0 c.if-not-is_need_more.false in
    let steps = c.in_ok-step.ensures.steps (ok_err _ _) in
    let waits = steps.only_then (ap Ok more) in
    pulls_lost c.args.id c.args.separator.now c.args.buffer.now c.loop-step.buffer c.read_more.new.buffer _ _ _ _ (c.loop-step.invariant.reaches t) waits.0 waits.1 (c.in_err-read_more.ensures.lost t)
    (is ∙ ap Err c.in_err-read_more.ensures.memory)

pub returns-then-not-is_need_more-clause-grows : goal.returns-then-not-is_need_more-clause-grows
returns-then-not-is_need_more-clause-grows g c = c.loop-step.invariant.grows

pub returns-in_err-step-clause-grows : goal.returns-in_err-step-clause-grows
returns-in_err-step-clause-grows g c = c.loop-step.invariant.grows

pub returns-in_err-step-clause-failure : goal.returns-in_err-step-clause-failure
returns-in_err-step-clause-failure g c = λ t memory. not_failing (g.W.World.state c.args.world.now) (g.W.World.state c.loop-step.world) (c.loop-step.invariant.no_failure t)

pub returns-in_err-read_more-clause-grows : goal.returns-in_err-read_more-clause-grows
returns-in_err-read_more-clause-grows g c = λ t. Grows-then (c.loop-step.invariant.grows t) (c.in_err-read_more.ensures.grows t)

pub returns-in_err-read_more-clause-failure : goal.returns-in_err-read_more-clause-failure
returns-in_err-read_more-clause-failure g c = λ t memory. may_fail_later (g.W.World.state c.args.world.now) (g.W.World.state c.loop-step.world) (g.W.World.state c.read_more.new.world) (c.loop-step.invariant.no_failure t) (c.in_err-read_more.ensures.failure t)

pub loop-step-init : goal.loop-step-init
loop-step-init g c = record { same_open = λ j. refl; reaches = λ t. inl (refl, refl); no_failure = λ t. refl; grows = λ t. Grows-self (g.W.World.state c.args.world.now) }
