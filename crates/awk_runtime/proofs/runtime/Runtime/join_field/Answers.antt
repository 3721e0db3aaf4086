use Rattle.std.proofs.Common.{◌≡◌, ◌++◌, ap, ◌∙◌, to_z, of_z, arith}
use Rattle.std.specs.Int.{w128}
use Rattle.std.proofs.lemmas.Int.{ints}
use Rattle.awk_value.specs.declared.value.Value.TheVariants.{Input}
use Rattle.awk_text.specs.Pieces.{stretch_at}
use Rattle.awk_record.specs.Record.{RecordPair}
use Rattle.awk_semantics.specs.Faults.{of_record}
use Rattle.awk_runtime.proofs.Steps.{still}
use Rattle.awk_runtime.proofs.Words.{field_changes}
use Rattle.awk_runtime.proofs.runtime.Runtime.join_field.Goals as goal

pub returns-clause-appends : goal.returns-clause-appends
returns-clause-appends c = λ appends.
    let m = c.args.self.now in
    let span = c.in-Some.span in
    let number : to_z w128 (of_z w128 c.args.number) ≡ c.args.number = omega (arith, ints) in
    record {
      value = Input (stretch_at m.current.text span);
      changes = field_changes c.args.number (still m) (ap of_record (rw number at c.in-Some.ensures.field));
      text = c.append_stretch.ensures appends ∙ ap (λ t. c.args.line.now.items ++ stretch_at t span) (c.as_slice.ensures ∙ c.in-Some-text_at_hand.ensures ∙ ap (λ (r : RecordPair). r.text) c.stretch.ensures.same);
    }
