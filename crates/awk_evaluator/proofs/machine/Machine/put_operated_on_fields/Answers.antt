use Rattle.std.proofs.Common.{rules, ◌≡◌, to_z, of_z}
use mir.Syntax.{w128}
use Rattle.awk_evaluator.proofs.ReadFields.{numbers_operated}
use Rattle.awk_evaluator.proofs.machine.Machine.put_operated_on_fields.Goals as goal

pub returns-clause-puts : goal.returns-clause-puts
returns-clause-puts c = λ ok.
    let left : to_z w128 (of_z w128 c.in-Some.m) ≡ c.in-Some.m = search rules in
    let right : to_z w128 (of_z w128 c.in-Some-number_read.n) ≡ c.in-Some-number_read.n = search rules in
    let made : to_z w128 (of_z w128 c.in-Some-compute.z) ≡ c.in-Some-compute.z = search rules in
    let applied = c.in-Some-compute.ensures.some in
    let pushed = c.put.ensures.pushed ok in
    numbers_operated c.args.operator c.in-Some.m c.in-Some-number_read.n c.number_read.ensures.same c.number_read-2.ensures.same c.in-Some-compute.ensures.of_numbers c.in-Some.ensures.some c.in-Some-number_read.ensures.some (rw (left, right) at applied) (rw made at pushed)
