use Rattle.std.proofs.Common.{◌≡◌, ◌+◌, Some, sym, subst, ⊎_elim, arith}
use Rattle.std.proofs.lemmas.Bool.{cases_lt}
use Rattle.awk_ere.specs.definitions.Tree.{Matches, Finds}
use Rattle.awk_ere.proofs.pattern.Pattern.find_by_table.Goals as goal

pub returns-in_err-low-clause-found : goal.returns-in_err-low-clause-found
returns-in_err-low-clause-found c = λ t means.
    let s = c.args.text.now in
    let start = c.next_candidate-start.result in
    subst (Finds t s c.args.from) (sym c.from_residual.ensures)
    (λ i j ge le m.
    ⊎_elim (λ below. c.next_candidate-start.ensures.none t means i j ge below m)
    (λ at.
    ⊎_elim
    (λ here. let same : i ≡ start = omega (arith, at, here) in c.in_default.ensures.found t means j (subst (λ a. Matches s t a j) same m))
    (λ past. c.in_err-low.ensures.found t means i j past le m) (cases_lt i (start + 1)))
    (cases_lt i start))

pub returns-in_err-end-clause-found : goal.returns-in_err-end-clause-found
returns-in_err-end-clause-found c = λ t means.
    let begins = c.first_between-start.ensures.found t means (c.in_ok-low.ensures.found t means).2 in
    absurd (c.in_err-end.ensures.found t means begins.1.0 begins.1.1)

pub returns-in-Some-clause-found : goal.returns-in-Some-clause-found
returns-in-Some-clause-found c = λ t means.
    let first = c.next_candidate-start.ensures in
    let longest = c.in-Some.ensures.found t means in
    (first.order, first.within, first.none t means, longest.0, longest.1)

pub returns-then-start-text-clause-found : goal.returns-then-start-text-clause-found
returns-then-start-text-clause-found c = λ t means i j ge le m.
    let s = c.args.text.now in
    let start = c.next_candidate-start.result in
    ⊎_elim (λ below. c.next_candidate-start.ensures.none t means i j ge below m)
    (λ at. let same : i ≡ start = omega (arith, at, le, c.if-start-text.true) in c.in_default.ensures.found t means j (subst (λ a. Matches s t a j) same m))
    (cases_lt i start)

pub returns-clause-found : goal.returns-clause-found
returns-clause-found c = λ t means.
    let s = c.args.text.now in
    let start = c.next_candidate-start.result in
    let window = c.in_ok-low.ensures.found t means in
    let begins = c.first_between-start.ensures.found t means window.2 in
    let longest = c.in_ok-end.ensures.found t means in (
      omega (arith, begins.0, window.0, c.next_candidate-start.ensures.order),
      c.first_between-start.ensures.within,
      (λ i j ge lt m.
          ⊎_elim (λ below. c.next_candidate-start.ensures.none t means i j ge below m)
          (λ at.
          ⊎_elim
          (λ here. let same : i ≡ start = omega (arith, at, here) in c.in_default.ensures.found t means j (subst (λ a. Matches s t a j) same m))
          (λ past. ⊎_elim (λ before. window.1 i j past before m) (λ behind. begins.2 i j behind lt m) (cases_lt i c.in_ok-low.low))
          (cases_lt i (start + 1)))
          (cases_lt i start)),
      longest.0,
      longest.1,
    )
