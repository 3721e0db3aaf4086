use Rattle.std.proofs.Common.{◌≡◌, ℕ, ◌+◌, ◌<◌, ◌≤◌, ◌&&◌, Bool, List, true, false, length, sym, ap, ◌∙◌, subst, arith}
use Rattle.std.specs.Prelude.{nat_le}
use Rattle.std.proofs.lemmas.Bool.{le-leb, leb-true, and_parts}
use Rattle.awk_ere.specs.definitions.Tree.{Tree}
use Rattle.awk_ere.specs.definitions.Means.{Means}
use Rattle.awk_ere.specs.support.CursorState.{Stood}
use Rattle.awk_ere.specs.support.Failures.{AreFailures}
use Rattle.awk_ere.specs.support.Found.{between}
use Rattle.awk_ere.specs.support.Layout.{first_state}
use Rattle.awk_ere.proofs.LastEnd.{between_past}
use Rattle.awk_ere.proofs.CursorKept.{known_first, stood_begin}
use Rattle.awk_ere.proofs.pattern.Pattern.learn.Goals as goal

-- where a place lies behind the first one, matches begin up to the last one
enters_up_to : (low high k : ℕ) → low ≤ k → nat_le k high ≡ between low high k
enters_up_to low high k le = sym (ap (λ b. b && nat_le k high) (le-leb low k le))

pub bytes-init : goal.bytes-init
bytes-init c =
    let p = c.args.self.now in
    let tb = c.args.scratch.now.table in
    let low = c.args.low in
    let high = c.args.high in
    record {
      same = c.requires.same;
      failures = c.requires.failures;
      known = known_first p tb c.requires.same.table low c.begin-cursor.result.state c.begin-cursor.ensures.state;
      order = omega (arith, c.begin-cursor.ensures.place);
      within = omega (arith, c.begin-cursor.ensures.place, c.requires.order);
      stood = λ t means. stood_begin p tb c.requires.same.table c.args.text.now t means (between low high) c.begin-cursor.result
          (λ i f. let le = leb-true low i (and_parts _ _ f).0 in omega (arith, le, c.begin-cursor.ensures.place))
          (c.begin-cursor.ensures.state ∙ ap first_state (sym c.begin-cursor.ensures.place)) c.begin-cursor.ensures.end;
    }

pub returns-then-not-keep_failure-clause-failures : goal.returns-then-not-keep_failure-clause-failures
returns-then-not-keep_failure-clause-failures c =
    let low = c.args.low in
    let high = c.args.high in
    let order = c.bytes.invariant.order in
    let further = c.advance-cursor.ensures.place in
    c.keep_failure.ensures c.args.text.now (between low high) c.bytes.invariant.failures
    (λ t means.
    let one = c.advance-cursor.ensures.stood t (between low high) means (enters_up_to low high c.bytes.cursor.place order) (c.bytes.invariant.stood t means) in
    c.last_loop-cursor.ensures.stood t (between low high) means
    (λ k a b. between_past low high k (omega (arith, order, further, a)) (omega (arith, c.if-cursor-high.true, a))) one)
    c.requires.none

pub bytes-preserved-else-not-keep_failure : goal.bytes-preserved-else-not-keep_failure
bytes-preserved-else-not-keep_failure c =
    let low = c.args.low in
    let high = c.args.high in
    let order = c.bytes.invariant.order in
    let further = c.advance-cursor.ensures.place in
    let stood : (t : Tree) → Means t c.args.self.now → Stood c.args.self.now c.advance-cursor.new.scratch.table c.args.text.now t (between low high) c.last_loop-cursor.result =
    λ t means.
    let one = c.advance-cursor.ensures.stood t (between low high) means (enters_up_to low high c.bytes.cursor.place order) (c.bytes.invariant.stood t means) in
    c.last_loop-cursor.ensures.stood t (between low high) means
    (λ k a b. between_past low high k (omega (arith, order, further, a)) (omega (arith, c.if-cursor-high.true, a))) one in
    record {
      same = c.advance-cursor.ensures.same;
      failures = c.keep_failure.ensures c.args.text.now (between low high) c.bytes.invariant.failures stood c.requires.none;
      known = c.last_loop-cursor.ensures.known;
      order = omega (arith, order, further, c.last_loop-cursor.ensures.order);
      within = omega (arith, c.last_loop-cursor.ensures.within, c.next_place-to.ensures.within);
      stood = stood;
    }

pub bytes-preserved : goal.bytes-preserved
bytes-preserved c =
    let low = c.args.low in
    let high = c.args.high in
    let order = c.bytes.invariant.order in
    record {
      same = c.advance-cursor.ensures.same;
      failures = c.bytes.invariant.failures;
      known = c.advance-cursor.ensures.known;
      order = omega (arith, order, c.advance-cursor.ensures.place);
      within = omega (arith, c.advance-cursor.ensures.place, c.bytes-test.true);
      stood = λ t means.
          c.advance-cursor.ensures.stood t (between low high) means (enters_up_to low high c.bytes.cursor.place order) (c.bytes.invariant.stood t means);
    }
