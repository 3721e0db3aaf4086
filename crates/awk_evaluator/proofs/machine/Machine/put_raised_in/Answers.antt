use Rattle.std.proofs.Common.{rules, ◌≡◌, refl, to_z, of_z}
use mir.Syntax.{w128}
use Rattle.awk_evaluator.proofs.QuickValues.{element_raised_puts}
use Rattle.awk_evaluator.proofs.machine.Machine.put_raised_in.Goals as goal

pub returns-clause-puts : goal.returns-clause-puts
returns-clause-puts c = λ _.
    let made : to_z w128 (of_z w128 c.in-Some-raise_element.n) ≡ c.in-Some-raise_element.n = search rules in
    let replaced = c.replace_by.ensures in
    element_raised_puts c.in-Some.ensures.top c.in-Some-raise_element.ensures.some (rw made at replaced) c.in-Some-raise_element.ensures.some.callers
