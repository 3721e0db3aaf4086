use Rattle.std.proofs.Common.{pos, ◌<ℤ◌, sym, ◌∙◌, ap, arith}
use Rattle.std.proofs.lemmas.Int.{ints, to_z-of_z}
use mir.Syntax.{w128}
use Rattle.awk_record.specs.definitions.Record.{RecordPair}
use Rattle.awk_record.proofs.FieldOfPieces.{IsIndexOf, kept_values, field_kept}
use Rattle.awk_record.proofs.record.Record.kept_field.Goals as goal

pub returns : goal.returns
returns c =
    let b = c.self.inside in
    let number = c.args.number in
    let index = c.index_of.result in
    let low : pos 0 <ℤ number = omega (arith, ints) in
    let at : IsIndexOf 18446744073709551615 number index = λ i is. c.index_of.ensures i (to_z-of_z w128 number c.ranges.number ∙ is) in
    let fields = sym (ap (λ (r : RecordPair). r.fields) c.self.view_is) ∙ (kept_values b.form b.text b.fields.separator b.output_separator b.values.items c.in_default.not-Split ∙ sym c.as_slice.ensures.value) in
    field_kept c.args.self.now c.as_slice.result.now 18446744073709551615 number index c.kept_at.result fields low at c.kept_at.ensures.value c.kept_at.ensures.none
