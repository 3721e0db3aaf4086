use Rattle.std.proofs.Common.{◌≡◌, ◌+◌, ◌<◌, ◌≤◌, length, min, true, Some, refl, sym, ap, ◌∙◌, ⊎_elim, arith}
use Rattle.std.specs.Prelude.{nat_eq}
use Rattle.std.proofs.lemmas.Bool.{false≢true, leb-true, and_parts}
use Rattle.awk_ere.specs.support.Layout.{first_state}
use Rattle.awk_ere.specs.support.Found.{between}
use Rattle.awk_ere.proofs.LastEnd.{enters_on, enters_end, between_past, ends_at}
use Rattle.awk_ere.proofs.CursorKept.{known_first, stood_begin, end_first, end_hit, end_miss}
use Rattle.awk_ere.proofs.FailuresKept.{end_failed}
use Rattle.awk_ere.proofs.pattern.Pattern.end_between.Goals as goal

pub scan-cursor-requires-clause-known : goal.scan-cursor-requires-clause-known
scan-cursor-requires-clause-known c =
    known_first c.args.self.now c.args.scratch.now.table c.requires.same.table c.args.low c.begin.result.state c.begin.ensures.state

pub returns-then-is_some-clause-found : goal.returns-then-is_some-clause-found
returns-then-is_some-clause-found c = λ t means.
    let p = c.args.self.now in
    let s = c.args.text.now in
    let low = c.args.low in
    let high = c.args.high in
    let begun = stood_begin p c.args.scratch.now.table c.requires.same.table s t means (between low high) c.begin.result
    (λ i f. let le = leb-true low i (and_parts _ _ f).0 in omega (arith, le, c.begin.ensures.place))
    (c.begin.ensures.state ∙ ap first_state (sym c.begin.ensures.place)) c.begin.ensures.end in
    let one = c.scan-cursor.ensures.stood t (between low high) means
    (λ k a b. enters_on low high (length s) k (omega (arith, a, c.begin.ensures.place)) (omega (arith, b, c.min-stop.ensures))) begun in
    ends_at true t s low high _ c.requires.within
    (end_first true p c.scan-cursor.new.scratch.table s t means low high c.scan-cursor.result one refl (sym c.is_some.ensures ∙ c.if-is_some.true))

pub bytes-init : goal.bytes-init
bytes-init c =
    let p = c.args.self.now in
    let s = c.args.text.now in
    let low = c.args.low in
    let high = c.args.high in
    let stopped : c.scan-cursor.result.place ≡ min (length s) (high + 1) =
    ⊎_elim (λ e. e ∙ c.min-stop.ensures) (λ some. absurd (false≢true (sym c.if-is_some.false ∙ c.is_some.ensures ∙ some))) c.scan-cursor.ensures.reached in
    record {
      same = c.scan-cursor.ensures.same;
      known = c.scan-cursor.ensures.known;
      past = omega (arith, stopped);
      within = omega (arith, stopped);
      stood = λ t means.
          let begun = stood_begin p c.args.scratch.now.table c.requires.same.table s t means (between low high) c.begin.result
          (λ i f. let le = leb-true low i (and_parts _ _ f).0 in omega (arith, le, c.begin.ensures.place))
          (c.begin.ensures.state ∙ ap first_state (sym c.begin.ensures.place)) c.begin.ensures.end in
          c.scan-cursor.ensures.stood t (between low high) means
          (λ k a b. enters_on low high (length s) k (omega (arith, a, c.begin.ensures.place)) (omega (arith, b, c.min-stop.ensures))) begun;
    }

pub returns-then-is_some-2-clause-found : goal.returns-then-is_some-2-clause-found
returns-then-is_some-2-clause-found c = λ t means.
    let p = c.args.self.now in
    let s = c.args.text.now in
    let low = c.args.low in
    let high = c.args.high in
    let past : high < c.bytes.cursor.place = omega (arith, c.bytes.invariant.past, c.bytes-test.true) in
    let two = c.scan-cursor-in-bytes.ensures.stood t (between low high) means
    (λ k a b. between_past low high k (omega (arith, c.requires.order, past, a)) (omega (arith, past, a))) (c.bytes.invariant.stood t means) in
    ends_at true t s low high _ c.requires.within
    (end_first true p c.scan-cursor-in-bytes.new.scratch.table s t means low high c.scan-cursor-in-bytes.result two refl (sym c.is_some-in-bytes.ensures ∙ c.if-is_some-2.true))

pub returns-then-has_failed-clause-found : goal.returns-then-has_failed-clause-found
returns-then-has_failed-clause-found c = λ t means.
    let p = c.args.self.now in
    let s = c.args.text.now in
    let low = c.args.low in
    let high = c.args.high in
    let past : high < c.bytes.cursor.place = omega (arith, c.bytes.invariant.past, c.bytes-test.true) in
    let two = c.scan-cursor-in-bytes.ensures.stood t (between low high) means
    (λ k a b. between_past low high k (omega (arith, c.requires.order, past, a)) (omega (arith, past, a))) (c.bytes.invariant.stood t means) in
    ends_at true t s low high _ c.requires.within
    (end_failed true t s low high c.scan-cursor-in-bytes.result.place c.scan-cursor-in-bytes.result.end (omega (arith, past, c.scan-cursor-in-bytes.ensures.order))
    (c.has_failed.ensures c.if-has_failed.true s c.requires.failures t (between low high) means two) two.last)

pub bytes-preserved : goal.bytes-preserved
bytes-preserved c =
    let p = c.args.self.now in
    let s = c.args.text.now in
    let low = c.args.low in
    let high = c.args.high in
    let past : high < c.bytes.cursor.place = omega (arith, c.bytes.invariant.past, c.bytes-test.true) in
    record {
      same = c.scan-cursor-in-bytes.ensures.same;
      known = c.scan-cursor-in-bytes.ensures.known;
      past = omega (arith, c.bytes.invariant.past, c.scan-cursor-in-bytes.ensures.order);
      within = omega (arith, c.scan-cursor-in-bytes.ensures.within, c.next_place-to.ensures.within);
      stood = λ t means. c.scan-cursor-in-bytes.ensures.stood t (between low high) means
          (λ k a b. between_past low high k (omega (arith, c.requires.order, past, a)) (omega (arith, past, a))) (c.bytes.invariant.stood t means);
    }

pub returns-then-leaves_at_end-clause-found : goal.returns-then-leaves_at_end-clause-found
returns-then-leaves_at_end-clause-found c = λ t means.
    let p = c.args.self.now in
    let s = c.args.text.now in
    let low = c.args.low in
    let high = c.args.high in
    let two = c.bytes.invariant.stood t means in
    let end : c.bytes.cursor.place ≡ length s = omega (arith, c.bytes.invariant.within, c.bytes-test.false) in
    let enters = enters_end low high c.bytes.cursor.place (length s) c.requires.order c.requires.within (omega (arith, end)) (omega (arith, end)) in
    let left = c.leaves_at_end.ensures.leaves two.start two.positions two.state in
    ends_at true t s low high (Some (length s)) c.requires.within
    (end_hit true p c.bytes.scratch.table s t means low high c.bytes.cursor two end (nat_eq high (length s)) c.leaves_at_end.result enters left c.if-leaves_at_end.true)

pub returns-clause-found : goal.returns-clause-found
returns-clause-found c = λ t means.
    let p = c.args.self.now in
    let s = c.args.text.now in
    let low = c.args.low in
    let high = c.args.high in
    let two = c.bytes.invariant.stood t means in
    let end : c.bytes.cursor.place ≡ length s = omega (arith, c.bytes.invariant.within, c.bytes-test.false) in
    let enters = enters_end low high c.bytes.cursor.place (length s) c.requires.order c.requires.within (omega (arith, end)) (omega (arith, end)) in
    let left = c.leaves_at_end.ensures.leaves two.start two.positions two.state in
    ends_at true t s low high _ c.requires.within
    (end_miss true p c.bytes.scratch.table s t means low high c.bytes.cursor two end (nat_eq high (length s)) c.leaves_at_end.result enters left c.if-leaves_at_end.false)
