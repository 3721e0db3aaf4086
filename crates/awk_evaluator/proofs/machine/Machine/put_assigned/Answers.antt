use Rattle.std.proofs.Common.{rules, ◌≡◌, refl, to_z, of_z}
use mir.Syntax.{w128}
use Rattle.awk_evaluator.proofs.QuickValues.{assigned_puts}
use Rattle.awk_evaluator.proofs.machine.Machine.put_assigned.Goals as goal

pub returns-clause-puts : goal.returns-clause-puts
returns-clause-puts c = λ _.
    let number : to_z w128 (of_z w128 c.in-Some.n) ≡ c.in-Some.n = search rules in
    let made : to_z w128 (of_z w128 c.in-Some-assign_number.z) ≡ c.in-Some-assign_number.z = search rules in
    let assigned = c.in-Some-assign_number.ensures.some in
    let replaced = c.replace_by.ensures in
    assigned_puts c.args.operator c.args.variable.now c.in-Some.ensures (rw (number, c.operator_of.ensures) at assigned) (rw made at replaced) c.in-Some-assign_number.ensures.some.callers
