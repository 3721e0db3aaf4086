use Rattle.std.proofs.Common.{rules, ◌≡◌, refl, ap, ◌∙◌, ◌∷◌, drop, to_z, of_z}
use mir.Syntax.{w128}
use Rattle.awk_value.specs.declared.value.Value.TheVariants.{Number}
use Rattle.awk_evaluator.specs.support.Operands.{OperandsView}
use Rattle.awk_evaluator.proofs.QuickValues.{operated_puts}
use Rattle.awk_evaluator.proofs.machine.Machine.put_operated.Goals as goal

pub returns-clause-puts : goal.returns-clause-puts
returns-clause-puts c = λ _.
    let left : to_z w128 (of_z w128 c.in-Some.m) ≡ c.in-Some.m = search rules in
    let right : to_z w128 (of_z w128 c.in-Some-number.n) ≡ c.in-Some-number.n = search rules in
    let made : to_z w128 (of_z w128 c.in-Some-apply_in_short.z) ≡ c.in-Some-apply_in_short.z = search rules in
    let applied = c.in-Some-apply_in_short.ensures in
    let replaced = c.replace_by.ensures in
    operated_puts c.in-Some.ensures c.in-Some-number.ensures (rw (left, right) at applied) ((rw made at replaced) ∙ ap (λ (o : OperandsView). record o { values = Number c.in-Some-apply_in_short.z ∷ drop 1 o.values }) c.pop.ensures.rest) refl refl
