use Rattle.std.proofs.Common.{sym, subst, arith}
use Rattle.awk_ere.specs.definitions.Tree.{Matches, Finds}
use Rattle.awk_ere.proofs.BeginsAtStart.{begins_at_start}
use Rattle.awk_ere.proofs.pattern.Pattern.find_at_start.Goals as goal

pub returns-then-from-gt0-clause-found : goal.returns-then-from-gt0-clause-found
returns-then-from-gt0-clause-found c = λ t means i j ge le m.
    let zero = begins_at_start t c.args.self.now means (c.requires.same.begins_at_start c.requires.anchored) c.args.text.now i j m in
    absurd (omega (arith, ge, zero))

pub returns-in_err-end-clause-found : goal.returns-in_err-end-clause-found
returns-in_err-end-clause-found c = λ t means.
    let s = c.args.text.now in
    subst (Finds t s c.args.from) (sym c.from_residual.ensures)
    (λ i j ge le m.
    let zero = begins_at_start t c.args.self.now means (c.requires.same.begins_at_start c.requires.anchored) s i j m in
    c.in_err-end.ensures.found t means j (subst (λ a. Matches s t a j) zero m))

pub returns-clause-found : goal.returns-clause-found
returns-clause-found c = λ t means.
    let longest = c.in_ok-end.ensures.found t means in (
      omega arith,
      omega arith,
      (λ i j ge lt m. absurd (omega (arith, lt))),
      longest.0,
      longest.1,
    )
