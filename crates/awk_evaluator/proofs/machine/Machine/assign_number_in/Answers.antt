use Rattle.std.proofs.Common.{◌≡◌, rules, refl, to_z, of_z}
use mir.Syntax.{w128}
use Rattle.awk_value.specs.declared.value.Value.TheVariants.{Number}
use Rattle.awk_evaluator.proofs.Parts.{alike_itself, element_assigned}
use Rattle.awk_evaluator.proofs.machine.Machine.assign_number_in.Goals as goal

pub returns-clause-assigned : goal.returns-clause-assigned
returns-clause-assigned c = λ _.
    let number : to_z w128 (of_z w128 c.in-Some.n) ≡ c.in-Some.n = search rules in
    let g = (c.if-not-change_element.ensures {u = tt}).changes refl in
    rw c.in-Element.is (element_assigned (Number c.in-Some.n) (alike_itself c.args.operator c.in-Some.ensures) (rw (number, ← c.in-Some-below.ensures) at g) c.drop.ensures g.gives.1.callers)
