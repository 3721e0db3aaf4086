use Rattle.std.proofs.Common.{rules, ◌≡◌, Ok, refl, arith, to_z, of_z}
use mir.Syntax.{w128}
use Rattle.awk_value.specs.Arithmetic.{negative_of}
use Rattle.awk_value.proofs.RangeIsInt128.{in_range}
use Rattle.awk_evaluator.proofs.QuickValues.{negated_puts}
use Rattle.awk_evaluator.proofs.machine.Machine.put_negated.Goals as goal

pub returns-clause-puts : goal.returns-clause-puts
returns-clause-puts c = λ _.
    let number : to_z w128 (of_z w128 c.in-Some.n) ≡ c.in-Some.n = search rules in
    let made : to_z w128 (of_z w128 c.in-Some-checked_neg.z) ≡ c.in-Some-checked_neg.z = search rules in
    let replaced = c.replace_by.ensures in
    let e : negative_of c.in-Some.n ≡ Ok c.in-Some-checked_neg.z = grind (arith, in_range, number, c.in-Some-checked_neg.ensures) in
    negated_puts c.in-Some.n c.in-Some.ensures e (rw made at replaced) refl refl
