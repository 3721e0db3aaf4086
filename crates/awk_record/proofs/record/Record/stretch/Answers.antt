use Rattle.std.proofs.Common.{◌≡◌, refl, pos, ◌<ℤ◌, ◌∙◌, sym, ap, arith}
use Rattle.std.proofs.lemmas.Int.{ints, to_z-of_z}
use mir.Syntax.{w128}
use Rattle.awk_record.specs.definitions.Record.{split_by}
use Rattle.awk_record.specs.support.Viewed.{pair_of}
use Rattle.awk_record.specs.declared.record.Form.{Form}
use Rattle.awk_record.proofs.FieldOfPieces.{IsIndexOf, stretch_found}
use Rattle.awk_record.proofs.record.Record.stretch.Goals as goal

pub returns-clause-field : goal.returns-clause-field
returns-clause-field c =
    let number = c.args.number in
    let index = c.index_of.result in
    let low : pos 0 <ℤ number = omega (arith, ints) in
    let at : IsIndexOf 18446744073709551615 number index = λ i is. c.index_of.ensures i (to_z-of_z w128 number c.ranges.number ∙ is) in
    let b = c.self.inside in
    let view : split_by b.fields.separator b.text ≡ c.args.self.now =
    ap (λ (f : Form). pair_of f b.text b.fields.separator b.output_separator b.values.items) (sym c.in-Split.is) ∙ c.self.view_is in
    let found = c.in-Ok-Some.ensures in
    stretch_found c.args.self.now b.fields.separator b.text b.text 18446744073709551615 number index c.in-Ok-Some.field-0 c.in-Ok-Some.span view refl low at
    c.in-Ok-Some.field-0-is found.value found.none
