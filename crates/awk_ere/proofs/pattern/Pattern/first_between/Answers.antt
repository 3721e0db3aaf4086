use Rattle.std.proofs.Common.{◌≡◌, ◌+◌, subst, ⊎_elim, arith}
use Rattle.std.proofs.lemmas.Bool.{cases_lt}
use Rattle.awk_ere.specs.definitions.Tree.{Matches}
use Rattle.awk_ere.proofs.StepTellsMatches.{match_le}
use Rattle.awk_ere.proofs.FailuresKept.{none_last}
use Rattle.awk_ere.proofs.pattern.Pattern.first_between.Goals as goal

pub halves-preserved-in-Some : goal.halves-preserved-in-Some
halves-preserved-in-Some c = record {
  same = c.end_between.ensures.same;
  failures = c.halves.invariant.failures;
  order = c.halves.invariant.order;
  begun = c.halves.invariant.begun;
  within = omega (arith, c.min-last.ensures, c.halves-test.true, c.halves.invariant.within);
  none = c.halves.invariant.none;
  some = λ t means o.
      let a = c.in-Some.ensures.found t means in
      let up = match_le c.args.text.now t a.0 c.in-Some.end a.3 in
      (a.0, c.in-Some.end, a.1, omega (arith, c.min-last.ensures, up, a.2), a.3);
}

pub learn-requires-clause-none : goal.learn-requires-clause-none
learn-requires-clause-none c = λ t means.
    let middle = c.halves.first + c.min.result in
    none_last t c.args.text.now c.halves.first middle middle (c.in-None.ensures.found t means)

pub halves-preserved : goal.halves-preserved
halves-preserved c =
    let middle = c.halves.first + c.min.result in
    record {
      same = c.learn.ensures.same;
      failures = c.learn.ensures.failures;
      order = omega (arith, c.halves.invariant.order);
      begun = omega (arith, c.halves-test.true, c.halves.invariant.within);
      within = c.halves.invariant.within;
      none = λ t means i j ge lt m.
          ⊎_elim (λ below. c.halves.invariant.none t means i j ge below m)
          (λ at. c.in-None.ensures.found t means (i, j, at, omega (arith, lt), m)) (cases_lt i c.halves.first);
      some = λ t means o.
          let a = c.halves.invariant.some t means o in
          ⊎_elim (λ below. absurd (c.in-None.ensures.found t means (a.0, a.1, a.2, omega (arith, below), a.4)))
          (λ past. (a.0, a.1, omega (arith, past), a.3, a.4)) (cases_lt a.0 (middle + 1));
    }

pub returns-clause-found : goal.returns-clause-found
returns-clause-found c = λ t means o.
    let a = c.halves.invariant.some t means o in
    let same : a.0 ≡ c.halves.first = omega (arith, a.2, a.3, c.halves-test.false) in
    (c.halves.invariant.order, (a.1, subst (λ i. Matches c.args.text.now t i a.1) same a.4), c.halves.invariant.none t means)
