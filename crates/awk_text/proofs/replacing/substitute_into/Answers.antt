use Rattle.std.proofs.Common.{◌++◌, sym, ap, ◌∙◌, subst, arith}
use Rattle.std.specs.Prelude.{IfOk}
use Rattle.awk_text.specs.definitions.Replaced.{Replaced, Replaces}
use Rattle.awk_text.proofs.NextMatch.{first_longest, next_longest}
use Rattle.awk_text.proofs.ExchangedSoFar.{added, exchanged_first, exchanged_more, exchanged_end, first_exchanged}
use Rattle.awk_text.proofs.replacing.substitute_into.Goals as goal

pub first_match-requires-clause-failures : goal.first_match-requires-clause-failures
first_match-requires-clause-failures c = c.for_pattern-failures.ensures c.args.text.now

pub returns-clause-replaced : goal.returns-clause-replaced
returns-clause-replaced c = λ t means.
    subst (λ all. IfOk c.replace_byte.result (λ count. Replaces t c.args.replacement.now c.args.text.now all count c.replace_byte.new.out.items)) (sym c.if-all.true)
    (c.replace_byte.ensures.replaced t (c.in-Some.ensures t means))

pub returns-then-not-all-clause-replaced : goal.returns-then-not-all-clause-replaced
returns-then-not-all-clause-replaced c = λ t means.
    let r = c.args.replacement.now in
    let s = c.args.text.now in
    let first = c.in-Some-first_match.first in
    let written = c.in_ok-add_replaced.ensures.added ∙ ap (λ o. o ++ added r s 0 first) (c.in_ok-reserve.ensures.items ∙ c.clear.ensures.items) in (
      omega arith,
      subst (λ all. Replaced t r s all 1 c.extend_from_slice.new.self.items) (sym c.if-not-all.true)
          (first_exchanged t r s c.add_replaced.new.out.items c.extend_from_slice.new.self.items first (c.in-Some-first_match.ensures.found t means) written c.in_ok-extend_from_slice.ensures.items),
    )

pub loop-next-init : goal.loop-next-init
loop-next-init c =
    let r = c.args.replacement.now in
    let s = c.args.text.now in
    let first = c.in-Some-first_match.first in
    let written = c.in_ok-add_replaced.ensures.added ∙ ap (λ o. o ++ added r s 0 first) (c.in_ok-reserve.ensures.items ∙ c.clear.ensures.items) in
    record {
      inside = c.in-Some-first_match.ensures.within.1;
      longest = λ t means. first_longest t c.args.text.now first (c.in-Some-first_match.ensures.found t means);
      some = omega arith;
      few = omega arith;
      same = c.in-Some-first_match.ensures.same;
      failures = c.in-Some-first_match.ensures.failures;
      exchanged = λ t means. exchanged_first t r s c.add_replaced.new.out.items first (c.in-Some-first_match.ensures.found t means) written;
    }

pub loop-next-preserved : goal.loop-next-preserved
loop-next-preserved c =
    let r = c.args.replacement.now in
    let s = c.args.text.now in
    let loop = c.loop-next in
    let next = c.in-Some-next_match.next in
    let past = c.in-Some-next_match.ensures.past in
    let few = loop.invariant.few in
    record {
      inside = c.in-Some-next_match.ensures.lies.within;
      longest = λ t means. next_longest t s loop.last.end next past (c.in-Some-next_match.ensures.found t means);
      some = omega arith;
      few = omega arith;
      same = c.in-Some-next_match.ensures.same;
      failures = c.in-Some-next_match.ensures.failures;
      exchanged = λ t means. exchanged_more t r s loop.out.items c.add_replaced-in-Some-next_match.new.out.items loop.count loop.last.end next
          (c.in-Some-next_match.ensures.found t means) c.in_ok-add_replaced-2.ensures.added (loop.invariant.exchanged t means);
    }

pub returns-2-clause-replaced : goal.returns-2-clause-replaced
returns-2-clause-replaced c = λ t means.
    let r = c.args.replacement.now in
    let s = c.args.text.now in
    let loop = c.loop-next in (
      loop.invariant.some,
      subst (λ all. Replaced t r s all loop.count c.extend_from_slice-2.new.self.items) (sym c.if-not-all.false)
          (exchanged_end t r s loop.out.items c.extend_from_slice-2.new.self.items loop.count loop.last.end
          (c.in_default-next_match.ensures.found t means) c.in_ok-extend_from_slice-2.ensures.items (loop.invariant.exchanged t means)),
    )
