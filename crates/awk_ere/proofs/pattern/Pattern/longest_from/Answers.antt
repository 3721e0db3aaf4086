use Rattle.std.proofs.Common.{◌≡◌, length, false, Some, sym, ap, ◌∙◌, subst, arith}
use Rattle.std.specs.Prelude.{nat_eq}
use Rattle.std.proofs.lemmas.Bool.{leb-true, and_parts}
use Rattle.awk_ere.specs.support.Layout.{first_state}
use Rattle.awk_ere.specs.support.Found.{EndsWithin, between}
use Rattle.awk_ere.proofs.LastEnd.{enters_once, between_past, enters_end, ends_longest}
use Rattle.awk_ere.proofs.CursorKept.{known_first, stood_begin, end_hit, end_miss}
use Rattle.awk_ere.proofs.FailuresKept.{end_failed}
use Rattle.awk_ere.proofs.pattern.Pattern.longest_from.Goals as goal

pub bytes-init : goal.bytes-init
bytes-init c =
    let p = c.args.self.now in
    let tb = c.args.scratch.now.table in
    let from = c.args.from in
    record {
      same = c.requires.same;
      known = known_first p tb c.requires.same.table from c.begin-cursor.result.state c.begin-cursor.ensures.state;
      order = omega (arith, c.begin-cursor.ensures.place);
      within = omega (arith, c.begin-cursor.ensures.place, c.requires.within);
      end = subst (EndsWithin from c.begin-cursor.result.place) (sym c.begin-cursor.ensures.end) tt;
      stood = λ t means. stood_begin p tb c.requires.same.table c.args.text.now t means (between from from) c.begin-cursor.result
          (λ i f. let le = leb-true from i (and_parts _ _ f).0 in omega (arith, le, c.begin-cursor.ensures.place))
          (c.begin-cursor.ensures.state ∙ ap first_state (sym c.begin-cursor.ensures.place)) c.begin-cursor.ensures.end;
    }

pub bytes-preserved : goal.bytes-preserved
bytes-preserved c =
    let from = c.args.from in
    let once = enters_once from c.bytes.cursor.place c.bytes.invariant.order in
    record {
      same = c.advance-cursor.ensures.same;
      known = c.last_loop-cursor.ensures.known;
      order = omega (arith, c.bytes.invariant.order, c.advance-cursor.ensures.place, c.last_loop-cursor.ensures.order);
      within = omega (arith, c.last_loop-cursor.ensures.within, c.next_place-to.ensures.within);
      end = c.last_loop-cursor.ensures.end from (omega (arith, c.bytes.invariant.order, c.advance-cursor.ensures.place))
          (c.advance-cursor.ensures.end from c.bytes.invariant.order c.bytes.invariant.end);
      stood = λ t means.
          let one = c.advance-cursor.ensures.stood t (between from from) means once (c.bytes.invariant.stood t means) in
          c.last_loop-cursor.ensures.stood t (between from from) means
          (λ k a b. between_past from from k (omega (arith, c.bytes.invariant.order, a, c.advance-cursor.ensures.place)) (omega (arith, c.bytes.invariant.order, a, c.advance-cursor.ensures.place))) one;
    }

pub returns-then-has_failed-clause-found : goal.returns-then-has_failed-clause-found
returns-then-has_failed-clause-found c = λ t means.
    let s = c.args.text.now in
    let from = c.args.from in
    let once = enters_once from c.bytes.cursor.place c.bytes.invariant.order in
    let one = c.advance-cursor.ensures.stood t (between from from) means once (c.bytes.invariant.stood t means) in
    let stood = c.last_loop-cursor.ensures.stood t (between from from) means
    (λ k a b. between_past from from k (omega (arith, c.bytes.invariant.order, a, c.advance-cursor.ensures.place)) (omega (arith, c.bytes.invariant.order, a, c.advance-cursor.ensures.place))) one in
    ends_longest t s from _ c.requires.within
    (end_failed false t s from from c.last_loop-cursor.result.place c.last_loop-cursor.result.end
    (omega (arith, c.bytes.invariant.order, c.advance-cursor.ensures.place, c.last_loop-cursor.ensures.order))
    (c.has_failed.ensures c.if-has_failed.true s c.requires.failures t (between from from) means stood) stood.last)

pub returns-then-has_failed-clause-end : goal.returns-then-has_failed-clause-end
returns-then-has_failed-clause-end c =
    c.last_loop-cursor.ensures.end c.args.from (omega (arith, c.bytes.invariant.order, c.advance-cursor.ensures.place))
    (c.advance-cursor.ensures.end c.args.from c.bytes.invariant.order c.bytes.invariant.end)

pub returns-then-leaves_at_end-clause-found : goal.returns-then-leaves_at_end-clause-found
returns-then-leaves_at_end-clause-found c = λ t means.
    let p = c.args.self.now in
    let s = c.args.text.now in
    let from = c.args.from in
    let h = c.bytes.invariant.stood t means in
    let end : c.bytes.cursor.place ≡ length s = omega (arith, c.bytes.invariant.within, c.bytes-test.false) in
    let enters = enters_end from from c.bytes.cursor.place (length s) (omega arith) c.requires.within (omega (arith, end)) (omega (arith, end)) in
    let left = c.leaves_at_end.ensures.leaves h.start h.positions h.state in
    ends_longest t s from (Some (length s)) c.requires.within
    (end_hit false p c.bytes.scratch.table s t means from from c.bytes.cursor h end (nat_eq from (length s)) c.leaves_at_end.result enters left c.if-leaves_at_end.true)

pub returns-clause-found : goal.returns-clause-found
returns-clause-found c = λ t means.
    let p = c.args.self.now in
    let s = c.args.text.now in
    let from = c.args.from in
    let h = c.bytes.invariant.stood t means in
    let end : c.bytes.cursor.place ≡ length s = omega (arith, c.bytes.invariant.within, c.bytes-test.false) in
    let enters = enters_end from from c.bytes.cursor.place (length s) (omega arith) c.requires.within (omega (arith, end)) (omega (arith, end)) in
    let left = c.leaves_at_end.ensures.leaves h.start h.positions h.state in
    ends_longest t s from _ c.requires.within
    (end_miss false p c.bytes.scratch.table s t means from from c.bytes.cursor h end (nat_eq from (length s)) c.leaves_at_end.result enters left c.if-leaves_at_end.false)
