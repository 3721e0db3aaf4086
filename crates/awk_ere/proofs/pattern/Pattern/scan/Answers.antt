use Rattle.std.proofs.Common.{arith}
use Rattle.awk_ere.proofs.pattern.Pattern.scan.Goals as goal

pub returns-then-is_some-clause-stood : goal.returns-then-is_some-clause-stood
returns-then-is_some-clause-stood c = λ t from means enters h.
    c.advance-cursor.ensures.stood t from means (enters c.bytes.cursor.place c.bytes.invariant.order c.bytes-test.true) (c.bytes.invariant.stood t from means enters h)

pub bytes-preserved : goal.bytes-preserved
bytes-preserved c = record {
  same = c.advance-cursor.ensures.same;
  known = c.fast_loop-cursor.ensures.known;
  order = omega (arith, c.bytes.invariant.order, c.advance-cursor.ensures.place, c.skip-cursor.ensures.order, c.fast_loop-cursor.ensures.order);
  within = omega (arith, c.fast_loop-cursor.ensures.within, c.min-near.ensures);
  stood = λ t from means enters h.
      let one = c.advance-cursor.ensures.stood t from means (enters c.bytes.cursor.place c.bytes.invariant.order c.bytes-test.true) (c.bytes.invariant.stood t from means enters h) in
      let two = c.skip-cursor.ensures.stood t from means (λ k a b. enters k (omega (arith, a, c.advance-cursor.ensures.place, c.bytes.invariant.order)) b) one in
      c.fast_loop-cursor.ensures.stood t from means (λ k a b. enters k (omega (arith, a, c.skip-cursor.ensures.order, c.advance-cursor.ensures.place, c.bytes.invariant.order)) (omega (arith, b, c.fast_loop-cursor.ensures.within, c.min-near.ensures))) two;
}
