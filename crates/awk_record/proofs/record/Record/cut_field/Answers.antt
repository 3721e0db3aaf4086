use Rattle.std.proofs.Common.{◌≡◌, ℕ, List, take, drop, Ok, sym, ◌∙◌, ap}
use Rattle.std.proofs.lemmas.Int.{to_z-of_z}
use mir.Syntax.{w128}
use Rattle.awk_text.specs.Pieces.{stretch_at}
use Rattle.awk_value.specs.declared.value.Value.TheVariants.{Input}
use Rattle.awk_record.specs.definitions.Record.{RecordPair, field_of}
use Rattle.awk_record.proofs.FieldOfPieces.{cut_stretch}
use Rattle.awk_record.proofs.record.Record.cut_field.Goals as goal

pub returns-in-Ok-clause-field : goal.returns-in-Ok-clause-field
returns-in-Ok-clause-field c =
    let span = c.in_ok-span.span in
    let text = c.args.self.now.text in
    let found = c.in_ok-span.ensures in
    let bytes : c.in_ok-text.text.now ≡ text = c.in_ok-text.ensures ∙ ap (λ (p : RecordPair). p.text) found.same in
    let cut : c.in-Ok.text ≡ stretch_at text span =
    c.in-Ok.ensures ∙ (ap (λ (t : List ℕ). drop span.start (take span.end t)) bytes ∙ cut_stretch text span found.within) in
    ap (field_of c.args.self.now) (sym (to_z-of_z w128 c.args.number c.ranges.number)) ∙ (found.field ∙ ap (λ (t : List ℕ). Ok (Input t)) (sym cut))
