use Rattle.std.proofs.Common.{◌≡◌, rules, refl, to_z, of_z}
use mir.Syntax.{w128}
use Rattle.awk_evaluator.proofs.Parts.{alike_itself, number_assigned}
use Rattle.awk_evaluator.proofs.machine.Machine.assign_number.Goals as goal

pub returns-clause-assigned : goal.returns-clause-assigned
returns-clause-assigned c = λ _.
    let number : to_z w128 (of_z w128 c.in-Some.n) ≡ c.in-Some.n = search rules in
    let g = (c.if-not-change_number.ensures {u = tt}).changes refl in
    rw c.in-Variable.is (number_assigned c.in-Some.n (alike_itself c.args.operator c.in-Some.ensures) (rw number at g) c.pop.ensures.rest g.changes.callers)
