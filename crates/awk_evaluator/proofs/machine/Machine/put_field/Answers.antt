use Rattle.std.proofs.Common.{rules, ◌≡◌, refl, to_z, of_z}
use mir.Syntax.{w128}
use Rattle.awk_evaluator.proofs.QuickValues.{field_puts}
use Rattle.awk_evaluator.proofs.machine.Machine.put_field.Goals as goal

pub returns-clause-puts : goal.returns-clause-puts
returns-clause-puts c = λ _.
    let number : to_z w128 (of_z w128 c.in-Some.n) ≡ c.in-Some.n = search rules in
    let found = c.in-Some-field_at_hand.ensures.some in
    field_puts c.in-Some.n c.in-Some.ensures (rw number at found) c.replace.ensures found.callers
