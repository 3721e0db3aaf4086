use Rattle.std.proofs.Common.{rules, ◌≡◌, refl, to_z, of_z}
use mir.Syntax.{w128}
use Rattle.awk_evaluator.proofs.AppliedValues.{position_replaces, applied_behind}
use Rattle.awk_evaluator.proofs.machine.Machine.replace_by_position.Goals as goal

pub returns-clause-puts : goal.returns-clause-puts
returns-clause-puts c = λ _.
    let made : to_z w128 (of_z w128 c.in-Some-position_at.position) ≡ c.in-Some-position_at.position = search rules in
    let replaced = c.replace.ensures in
    applied_behind c.span_of-span.ensures.same (position_replaces c.in-Some-position_at.ensures (c.in-Some.ensures {u = tt}).top (c.in-Some.ensures {u = tt}).there (rw made at replaced) refl refl)
