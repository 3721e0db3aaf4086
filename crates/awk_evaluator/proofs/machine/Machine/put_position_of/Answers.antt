use Rattle.std.proofs.Common.{rules, ◌≡◌, to_z, of_z}
use mir.Syntax.{w128}
use Rattle.awk_evaluator.proofs.AppliedValues.{position_applied, applied_behind}
use Rattle.awk_evaluator.proofs.machine.Machine.put_position_of.Goals as goal

pub returns-in-Some-position_at-clause-puts : goal.returns-in-Some-position_at-clause-puts
returns-in-Some-position_at-clause-puts c = λ ok.
    let made : to_z w128 (of_z w128 c.in-Some-position_at.position) ≡ c.in-Some-position_at.position = search rules in
    let pushed = c.put.ensures.pushed ok in
    applied_behind c.span_of-span.ensures.same (position_applied c.in-Some-position_at.ensures c.in-Some.ensures (rw made at pushed))
