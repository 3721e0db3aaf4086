use Rattle.std.proofs.Common.{◌≡◌, rules, to_z, of_z}
use mir.Syntax.{w128}
use Rattle.awk_evaluator.proofs.AppliedValues.{span_found}
use Rattle.awk_evaluator.proofs.ReadFields.{stretch_at_hand}
use Rattle.awk_evaluator.proofs.machine.Machine.span_of.Goals as goal

pub returns-clause-stands : goal.returns-clause-stands
returns-clause-stands c =
    let number : to_z w128 (of_z w128 c.in_ok-number.number) ≡ c.in_ok-number.number = search rules in
    let found = c.field_span.ensures.field in
    span_found c.in_ok-number.number c.field_span.result (c.in_ok-number.ensures {u = tt}) (rw number at found)

pub returns-clause-field : goal.returns-clause-field
returns-clause-field c =
    let number : to_z w128 (of_z w128 c.in_ok-number.number) ≡ c.in_ok-number.number = search rules in
    let found = c.field_span.ensures.field in
    stretch_at_hand c.in_ok-number.number c.field_span.result (c.in_ok-number.ensures {u = tt}) (rw number at found)
