use Rattle.std.proofs.Common.{rules, ◌≡◌, to_z, of_z}
use mir.Syntax.{w128}
use Rattle.awk_evaluator.proofs.OperandLines.{field_appended}
use Rattle.awk_evaluator.proofs.machine.Machine.join_operand.Goals as goal

pub returns-in-Some-clause-appends : goal.returns-in-Some-clause-appends
returns-in-Some-clause-appends c = λ appends.
    let number : to_z w128 (of_z w128 c.in-Some.number) ≡ c.in-Some.number = search rules in
    field_appended c.in-Some.number c.in-Some.ensures (rw number at (c.join_field.ensures.appends appends))

pub returns-in-Some-value_at-clause-appends : goal.returns-in-Some-value_at-clause-appends
returns-in-Some-value_at-clause-appends c = λ appends.
    let at = c.in-Some-value_at.ensures in
    record { value = c.in-Some-value_at.value.now; changes = at.changes; text = c.append_value.ensures appends }
