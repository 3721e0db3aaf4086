use Rattle.std.proofs.Common.{◌≡◌, ◌<◌, ◌⊎◌, ℕ, List, [], length, ◌∙◌, ap, subst}
use Rattle.std.specs.Prelude.{slice_get}
use Rattle.std.specs.Option.{option_map}
use Rattle.awk_text.specs.Pieces.{stretch_at}
use Rattle.awk_text.specs.Fields.{pieces_by, pieces_from_by}
use Rattle.awk_text.specs.Separators.{Rule}
use Rattle.awk_text.specs.declared.span.Span.{Span}
use Rattle.awk_record.specs.support.Found.{AreFieldsOf}
use Rattle.awk_record.proofs.FoundFields.{field-found}
use Rattle.awk_record.proofs.fields.Fields.at.Goals as goal

pub returns-clause-value : goal.returns-clause-value
returns-clause-value c =
    let text = c.args.text.now in
    let index = c.args.index in
    let fields = c.find.new.self in
    let found = c.in_ok-find.ensures in
    let same = c.as_slice-bytes.ensures in
    let all = subst (λ (t : List ℕ). AreFieldsOf t fields) same found.fields in
    let reached = subst (λ (t : List ℕ). (index < length fields.spans.items) ⊎ (pieces_from_by fields.separator t fields.rest ≡ [])) same found.found in
    let got : c.span_at-2.result ≡ slice_get fields.spans.items index = c.span_at-2.ensures ∙ ap (λ (spans : List Span). slice_get spans index) c.as_slice-2.ensures.value in
    ap (option_map (stretch_at text)) got
    ∙ (field-found text fields index all reached ∙ ap (λ (separator : Rule). slice_get (pieces_by separator text) index) found.separator)
