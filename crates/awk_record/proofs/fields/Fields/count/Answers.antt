use Rattle.std.proofs.Common.{◌≤◌, length, ◌∙◌, ap, arith}
use Rattle.awk_text.specs.Fields.{pieces_by}
use Rattle.awk_text.specs.Separators.{Rule}
use Rattle.awk_record.proofs.FoundFields.{count-found}
use Rattle.awk_record.proofs.fields.Fields.count.Goals as goal

pub returns-clause-value : goal.returns-clause-value
returns-clause-value c =
    let text = c.args.text.now in
    let fields = c.find.new.self in
    let all = c.in_ok-find.ensures in
    let places = fields.spans.ok.0 in
    let few : length fields.spans.items ≤ 18446744073709551615 = omega (arith, places) in
    c.len.ensures ∙ (places ∙ (count-found text fields 18446744073709551615 all.fields all.found few
    ∙ ap (λ (separator : Rule). length (pieces_by separator text)) all.separator))
