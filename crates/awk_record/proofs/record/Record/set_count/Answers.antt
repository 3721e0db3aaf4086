use Rattle.std.proofs.Common.{◌∙◌, ap, List}
use Rattle.std.proofs.lemmas.Int.{to_z-of_z}
use mir.Syntax.{w128}
use Rattle.awk_value.specs.declared.value.Value.{Value}
use Rattle.awk_record.specs.definitions.Record.{RecordPair, assignable, resized}
use Rattle.awk_record.proofs.AssignedFields.{count_is}
use Rattle.awk_record.proofs.record.Record.set_count.Goals as goal

pub returns-clause-ok : goal.returns-clause-ok
returns-clause-ok c =
    let count = c.args.count in
    let n = c.in_ok-count.count in
    let fields = c.in_ok-take_values.ensures.ok c.self.inside.output_separator ∙ ap (λ (r : RecordPair). r.fields) c.self.view_is in
    let made = c.in_ok-resize.ensures.ok ∙ ap (λ (values : List Value). resized n values) fields in
    count_is count n c.args.separator c.args.self.now c.resize.new.values.items (c.in_ok-count.ensures ∙ ap assignable (to_z-of_z w128 count c.ranges.count)) made
