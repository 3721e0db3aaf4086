use Rattle.std.proofs.Common.{rules, ◌≡◌, refl, to_z, of_z}
use mir.Syntax.{w128}
use Rattle.awk_evaluator.proofs.QuickValues.{operated_with_puts}
use Rattle.awk_evaluator.proofs.machine.Machine.put_operated_with.Goals as goal

pub returns-clause-puts : goal.returns-clause-puts
returns-clause-puts c = λ _.
    let left : to_z w128 (of_z w128 c.in-Some.m) ≡ c.in-Some.m = search rules in
    let right : to_z w128 (of_z w128 c.in-Some-number_at.n) ≡ c.in-Some-number_at.n = search rules in
    let made : to_z w128 (of_z w128 c.in-Some-apply_in_short.z) ≡ c.in-Some-apply_in_short.z = search rules in
    let applied = c.in-Some-apply_in_short.ensures in
    let replaced = c.replace_by.ensures in
    operated_with_puts refl c.in-Some.ensures c.in-Some-number_at.ensures (rw (left, right) at applied) (rw made at replaced) refl refl
