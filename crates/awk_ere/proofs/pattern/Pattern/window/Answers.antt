use Rattle.std.proofs.Common.{◌-◌, length, true, Some, refl, sym, ap, ◌∙◌, subst, ⊎_elim, is_some, arith}
use Rattle.std.proofs.lemmas.Bool.{false≢true, cases_lt, leb-true, and_parts}
use Rattle.awk_ere.specs.support.Layout.{first_state}
use Rattle.awk_ere.specs.support.Found.{between, EndsAt}
use Rattle.awk_ere.proofs.LastEnd.{between_in, ends_at}
use Rattle.awk_ere.proofs.StepTellsMatches.{match_le}
use Rattle.awk_ere.proofs.CursorKept.{known_first, stood_begin, none_to_dead, end_first, end_hit, end_miss}
use Rattle.awk_ere.proofs.pattern.Pattern.window.Goals as goal

pub run-cursor-requires-clause-known : goal.run-cursor-requires-clause-known
run-cursor-requires-clause-known c =
    known_first c.args.self.now c.runs.scratch.table c.runs.invariant.same.table c.next_candidate-low.result c.begin.result.state c.begin.ensures.state

pub returns-in-Some-clause-within : goal.returns-in-Some-clause-within
returns-in-Some-clause-within c =
    (omega (arith, c.runs.invariant.order, c.next_candidate-low.ensures.order), (c.next_candidate-low.ensures.within, omega arith))

pub returns-in-Some-clause-found : goal.returns-in-Some-clause-found
returns-in-Some-clause-found c = λ t means.
    let p = c.args.self.now in
    let s = c.args.text.now in
    let low = c.next_candidate-low.result in
    let len = length s in
    let begun = stood_begin p c.runs.scratch.table c.runs.invariant.same.table s t means (between low len) c.begin.result
    (λ i f. let le = leb-true low i (and_parts _ _ f).0 in omega (arith, le, c.begin.ensures.place))
    (c.begin.ensures.state ∙ ap first_state (sym c.begin.ensures.place)) c.begin.ensures.end in
    let stood = c.run-cursor.ensures.stood t (between low len) means
    (λ k a b. between_in low len k (omega (arith, a, c.begin.ensures.place)) (omega (arith, b, c.run-cursor.ensures.within))) begun in
    let ended = ends_at true t s low len c.run-cursor.result.end (omega arith)
    (end_first true p c.run-cursor.new.scratch.table s t means low len c.run-cursor.result stood refl (ap is_some c.in-Some.is)) in
    let at = subst (EndsAt t s low len) c.in-Some.is ended in
    let up = match_le s t at.0 c.in-Some.end at.3 in (
      omega (arith, c.runs.invariant.order, c.next_candidate-low.ensures.order),
      (λ i j ge lt m. ⊎_elim (λ below. c.runs.invariant.none t means i j ge below m) (λ past. c.next_candidate-low.ensures.none t means i j past lt m) (cases_lt i c.runs.low)),
      (at.0, c.in-Some.end, at.1, omega (arith, up, at.2), at.3),
    )

pub returns-then-leaves_at_end-clause-found : goal.returns-then-leaves_at_end-clause-found
returns-then-leaves_at_end-clause-found c = λ t means.
    let p = c.args.self.now in
    let s = c.args.text.now in
    let low = c.next_candidate-low.result in
    let len = length s in
    let begun = stood_begin p c.runs.scratch.table c.runs.invariant.same.table s t means (between low len) c.begin.result
    (λ i f. let le = leb-true low i (and_parts _ _ f).0 in omega (arith, le, c.begin.ensures.place))
    (c.begin.ensures.state ∙ ap first_state (sym c.begin.ensures.place)) c.begin.ensures.end in
    let stood = c.run-cursor.ensures.stood t (between low len) means
    (λ k a b. between_in low len k (omega (arith, a, c.begin.ensures.place)) (omega (arith, b, c.run-cursor.ensures.within))) begun in
    let end = c.if-cursor-len.true in
    let enters = between_in low len c.run-cursor.result.place (omega (arith, end, c.next_candidate-low.ensures.within)) (omega (arith, end)) in
    let left = c.leaves_at_end.ensures.leaves stood.start stood.positions stood.state in
    let at = ends_at true t s low len (Some len) (omega arith)
    (end_hit true p c.run-cursor.new.scratch.table s t means low len c.run-cursor.result stood end true c.leaves_at_end.result enters left c.if-leaves_at_end.true) in (
      omega (arith, c.runs.invariant.order, c.next_candidate-low.ensures.order),
      (λ i j ge lt m. ⊎_elim (λ below. c.runs.invariant.none t means i j ge below m) (λ past. c.next_candidate-low.ensures.none t means i j past lt m) (cases_lt i c.runs.low)),
      (at.0, len, at.1, at.2, at.3),
    )

pub returns-else-leaves_at_end-clause-found : goal.returns-else-leaves_at_end-clause-found
returns-else-leaves_at_end-clause-found c = λ t means.
    let p = c.args.self.now in
    let s = c.args.text.now in
    let low = c.next_candidate-low.result in
    let len = length s in
    let begun = stood_begin p c.runs.scratch.table c.runs.invariant.same.table s t means (between low len) c.begin.result
    (λ i f. let le = leb-true low i (and_parts _ _ f).0 in omega (arith, le, c.begin.ensures.place))
    (c.begin.ensures.state ∙ ap first_state (sym c.begin.ensures.place)) c.begin.ensures.end in
    let stood = c.run-cursor.ensures.stood t (between low len) means
    (λ k a b. between_in low len k (omega (arith, a, c.begin.ensures.place)) (omega (arith, b, c.run-cursor.ensures.within))) begun in
    let end = c.if-cursor-len.true in
    let enters = between_in low len c.run-cursor.result.place (omega (arith, end, c.next_candidate-low.ensures.within)) (omega (arith, end)) in
    let left = c.leaves_at_end.ensures.leaves stood.start stood.positions stood.state in
    let ended = ends_at true t s low len c.run-cursor.result.end (omega arith)
    (end_miss true p c.run-cursor.new.scratch.table s t means low len c.run-cursor.result stood end true c.leaves_at_end.result enters left c.if-leaves_at_end.false) in
    let none = subst (EndsAt t s low len) c.in_default.is ended in
    λ i j ge le m.
    ⊎_elim (λ below. c.runs.invariant.none t means i j ge below m)
    (λ past. ⊎_elim (λ near. c.next_candidate-low.ensures.none t means i j past near m) (λ far. none (i, j, far, le, m)) (cases_lt i low))
    (cases_lt i c.runs.low)

pub runs-preserved : goal.runs-preserved
runs-preserved c =
    let p = c.args.self.now in
    let s = c.args.text.now in
    let low = c.next_candidate-low.result in
    let place = c.run-cursor.result.place in
    let dead = ⊎_elim (λ e. absurd (c.if-cursor-len.false e)) (⊎_elim (λ some. absurd (false≢true (sym (ap is_some c.in_default.is) ∙ some))) (λ d. d)) c.run-cursor.ensures.stopped in
    let further = c.run-cursor.ensures.further (omega (arith, c.begin.ensures.place, c.next_candidate-low.ensures.within, c.run-cursor.ensures.order, c.run-cursor.ensures.within, c.if-cursor-len.false)) in
    record {
      same = c.run-cursor.ensures.same;
      order = omega (arith, c.runs.invariant.order, c.next_candidate-low.ensures.order, c.run-cursor.ensures.order, c.begin.ensures.place);
      none = λ t means i j ge lt m.
          let last = place - 1 in
          let begun = stood_begin p c.runs.scratch.table c.runs.invariant.same.table s t means (between low last) c.begin.result
          (λ i f. let le = leb-true low i (and_parts _ _ f).0 in omega (arith, le, c.begin.ensures.place))
          (c.begin.ensures.state ∙ ap first_state (sym c.begin.ensures.place)) c.begin.ensures.end in
          let stood = c.run-cursor.ensures.stood t (between low last) means
          (λ k a b. between_in low last k (omega (arith, a, c.begin.ensures.place)) (omega (arith, b))) begun in
          ⊎_elim (λ below. c.runs.invariant.none t means i j ge below m)
          (λ past.
          ⊎_elim (λ near. c.next_candidate-low.ensures.none t means i j past near m)
          (λ far. none_to_dead p c.run-cursor.new.scratch.table c.run-cursor.ensures.same.table s t means low c.run-cursor.result (omega (arith, further, c.begin.ensures.place)) stood dead c.in_default.is i j far lt m)
          (cases_lt i low))
          (cases_lt i c.runs.low);
    }
