use Rattle.std.proofs.Common.{rules, ◌≡◌, refl, ap, ◌∙◌, ◌∷◌, drop, to_z, of_z}
use mir.Syntax.{w128}
use Rattle.awk_value.specs.declared.value.Value.TheVariants.{Number}
use Rattle.awk_evaluator.specs.support.Operands.{OperandsView}
use Rattle.awk_evaluator.proofs.QuickValues.{field_assigned_puts}
use Rattle.awk_evaluator.proofs.machine.Machine.put_in_field.Goals as goal

pub returns-clause-puts : goal.returns-clause-puts
returns-clause-puts c = λ _.
    let number : to_z w128 (of_z w128 c.in-Some.number) ≡ c.in-Some.number = search rules in
    let made : to_z w128 (of_z w128 c.in-Some-number.n) ≡ c.in-Some-number.n = search rules in
    let put = (c.if-not-put_number_in_field.ensures {u = tt}).put refl in
    let replaced = c.replace_by.ensures in
    field_assigned_puts c.in-Some.ensures c.in-Some-number.ensures (rw (number, made) at put) ((rw made at replaced) ∙ ap (λ (o : OperandsView). record o { values = Number c.in-Some-number.n ∷ drop 1 o.values }) c.pop.ensures.rest) put.callers
