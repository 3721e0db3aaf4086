use Rattle.std.proofs.Common.{rules, ◌≡◌, refl, to_z, of_z}
use mir.Syntax.{w128}
use Rattle.awk_evaluator.proofs.QuickValues.{element_puts}
use Rattle.awk_evaluator.proofs.machine.Machine.put_element.Goals as goal

pub returns-in-Number-clause-puts : goal.returns-in-Number-clause-puts
returns-in-Number-clause-puts c = λ _.
    let made : to_z w128 (of_z w128 c.in-Number.n) ≡ c.in-Number.n = search rules in
    let there = c.in-Some-element_in.ensures in
    let replaced = c.replace_by.ensures in
    element_puts c.in-Some.ensures.top (rw c.in-Number.is at there) (rw made at replaced) refl refl

pub returns-clause-puts : goal.returns-clause-puts
returns-clause-puts c = λ ok. element_puts c.in-Some.ensures.top c.in-Some-element_in.ensures (c.replace_by_copy.ensures.replaced ok) refl refl
