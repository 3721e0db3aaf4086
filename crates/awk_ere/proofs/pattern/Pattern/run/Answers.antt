use Rattle.std.proofs.Common.{arith}
use Rattle.awk_ere.proofs.pattern.Pattern.run.Goals as goal

pub bytes-preserved : goal.bytes-preserved
bytes-preserved c = record {
  same = c.advance-cursor.ensures.same;
  known = c.fast_loop-cursor.ensures.known;
  order = omega (arith, c.bytes.invariant.order, c.advance-cursor.ensures.place, c.fast_loop-cursor.ensures.order);
  within = c.fast_loop-cursor.ensures.within;
  stood = λ t from means enters h.
      let one = c.bytes.invariant.stood t from means (λ k a b. enters k a (omega (arith, b, c.advance-cursor.ensures.place, c.fast_loop-cursor.ensures.order))) h in
      let two = c.advance-cursor.ensures.stood t from means (enters c.bytes.cursor.place c.bytes.invariant.order (omega (arith, c.advance-cursor.ensures.place, c.fast_loop-cursor.ensures.order))) one in
      c.fast_loop-cursor.ensures.stood t from means (λ k a b. enters k (omega (arith, a, c.advance-cursor.ensures.place, c.bytes.invariant.order)) b) two;
}

pub returns-then-is_some-clause-stood : goal.returns-then-is_some-clause-stood
returns-then-is_some-clause-stood c = λ t from means enters h.
    let one = c.bytes.invariant.stood t from means (λ k a b. enters k a (omega (arith, b, c.advance-cursor.ensures.place))) h in
    c.advance-cursor.ensures.stood t from means (enters c.bytes.cursor.place c.bytes.invariant.order (omega (arith, c.advance-cursor.ensures.place))) one
