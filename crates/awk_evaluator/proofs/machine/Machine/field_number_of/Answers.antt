use Rattle.std.proofs.Common.{◌≡◌, rules, pos, to_z, of_z}
use mir.Syntax.{w128}
use Rattle.awk_evaluator.proofs.Fields.{field_known, fields_at}
use Rattle.awk_evaluator.proofs.machine.Machine.field_number_of.Goals as goal

pub returns-in-Field : goal.returns-in-Field
returns-in-Field c =
    let number : to_z w128 (of_z w128 c.from.result) ≡ pos c.in-Field.number = search rules in
    rw (c.in-Field.is, number) (field_known c.in-Field.number)

pub returns-in-FieldAt : goal.returns-in-FieldAt
returns-in-FieldAt c = rw c.in-FieldAt.is (fields_at c.args.self.now c.in-FieldAt.variable c.number_of_variable.result c.number_of_variable.ensures)
