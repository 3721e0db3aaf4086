use Rattle.std.proofs.Common.{◌<◌, ◌-◌, max, ◌∙◌, ap, arith, length, List}
use Rattle.std.specs.Prelude.{slice_set}
use Rattle.std.proofs.lemmas.Int.{to_z-of_z}
use mir.Syntax.{w128}
use Rattle.awk_value.specs.declared.value.Value.{Value}
use Rattle.awk_record.specs.definitions.Record.{RecordPair, assignable, resized}
use Rattle.awk_record.proofs.AssignedFields.{field_is}
use Rattle.awk_record.proofs.record.Record.set_field.Goals as goal

pub returns-clause-ok : goal.returns-clause-ok
returns-clause-ok c =
    let number = c.args.number in
    let n = c.in_ok-number.number in
    let value = c.args.value in
    let low : 0 < n = omega arith in
    let fields = c.in_ok-take_values.ensures.ok c.self.inside.output_separator ∙ ap (λ (r : RecordPair). r.fields) c.self.view_is in
    let made = c.in_ok-set_value.ensures.ok ∙ ap (λ (values : List Value). slice_set (resized (max n (length values)) values) (n - 1) value) fields in
    field_is number n value c.args.separator c.args.self.now c.set_value.new.values.items (c.in_ok-number.ensures ∙ ap assignable (to_z-of_z w128 number c.ranges.number)) low made
