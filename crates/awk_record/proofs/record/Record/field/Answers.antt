use Rattle.std.proofs.Common.{pos, ◌<ℤ◌, ◌∙◌, arith}
use Rattle.std.proofs.lemmas.Int.{ints, to_z-of_z}
use mir.Syntax.{w128}
use Rattle.awk_record.proofs.FieldOfPieces.{IsIndexOf, field_asked}
use Rattle.awk_record.proofs.record.Record.field.Goals as goal

pub returns-clause-field : goal.returns-clause-field
returns-clause-field c =
    let number = c.args.number in
    let index = c.index_of.result in
    let low : pos 0 <ℤ number = omega (arith, ints) in
    let at : IsIndexOf 18446744073709551615 number index = λ i is. c.index_of.ensures i (to_z-of_z w128 number c.ranges.number ∙ is) in
    field_asked c.args.self.now 18446744073709551615 number index c.field_at.result low at c.field_at.ensures.value c.field_at.ensures.none c.field_at.ensures.memory
