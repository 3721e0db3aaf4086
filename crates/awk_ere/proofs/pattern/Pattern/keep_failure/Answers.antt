use Rattle.std.proofs.Common.{◌≡◌, ℕ, ◌*◌, List, Bool, true, false, sym, ap, ◌∙◌, subst, ⊎_elim, arith, get_or}
use Rattle.awk_ere.specs.support.Failures.{GoesOn}
use Rattle.awk_ere.proofs.FailuresKept.{fails}
use Rattle.awk_ere.proofs.pattern.Pattern.keep_failure.Goals as goal

pub returns-then-not-cover : goal.returns-then-not-cover
returns-then-not-cover c = λ s from are stood none t means number n j marked goes.
    let spacing = c.add.ensures.spacing in
    let old = c.args.failures.now.spacing in
    ⊎_elim
    (λ before. are t means number n j before (subst (λ d. GoesOn s t (number * d) n j) spacing goes))
    (λ here.
    let h = stood t means in
    let place = ap (λ d. number * d) spacing ∙ ap (λ m. m * old) here.0 ∙ sym c.in-Some.ensures in
    fails s t from c.args.cursor.place h.positions h.runs means.0 c.args.end (none t means) (omega (arith, c.if-cursor-end.false)) n j
    (subst (λ l. get_or l n false ≡ true) (c.positions_in-positions.ensures h.start h.positions h.state) here.1)
    (subst (λ k. GoesOn s t k n j) place goes))
    (c.add.ensures.marked number n marked)
