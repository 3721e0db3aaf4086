use Rattle.std.proofs.Common.{◌≡◌, rules, refl, ap, ◌∙◌, drop, to_z, of_z}
use Rattle.std.proofs.lemmas.Result.{err_from_is_err_and}
use mir.Syntax.{w128}
use Rattle.awk_evaluator.specs.Operands.{OperandsView}
use Rattle.awk_evaluator.proofs.Arguments.{two_given, first_refused}
use Rattle.awk_evaluator.proofs.machine.Machine.give_two.Goals as goal

pub returns-in_err-give_value : goal.returns-in_err-give_value
returns-in_err-give_value c =
    let p = err_from_is_err_and c.from_residual.result c.from_residual.ensures.1 in
    rw (p.1, p.2) (first_refused c.in_err-give_value.ensures)

pub returns : goal.returns
returns c =
    let left : to_z w128 (of_z w128 c.in-Some.left) ≡ c.in-Some.left = search rules in
    let right : to_z w128 (of_z w128 c.in-Some-number.right) ≡ c.in-Some-number.right = search rules in
    let one = c.in_ok-give_value.ensures.given in
    let two = c.give_value-2.ensures in
    let dropped : OperandsView → OperandsView = λ o. record { values = drop 1 o.values; below = o.below } in
    rw c.requires (two_given c.in-Some.ensures c.in-Some-number.ensures (rw left at one) (rw right at two) (c.pop-3.ensures.rest ∙ ap dropped c.pop.ensures.rest))
