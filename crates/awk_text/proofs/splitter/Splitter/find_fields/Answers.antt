use Rattle.std.proofs.Common.{◌≡◌, ◌++◌, subst}
use Rattle.awk_text.specs.declared.splitter.Splitter.{Splitter}
use Rattle.awk_text.specs.definitions.Fields.{pieces_from}
use Rattle.awk_text.specs.definitions.Pieces.{stretches_at}
use Rattle.awk_text.specs.definitions.Separators.{Separator}
use Rattle.awk_text.specs.support.Splitters.{Stands}
use Rattle.awk_text.proofs.SplitterStands.{for_blanks, same_ere}
use Rattle.awk_text.proofs.splitter.Splitter.find_fields.Goals as goal

pub returns-in-Blanks-clause-pieces : goal.returns-in-Blanks-clause-pieces
returns-in-Blanks-clause-pieces c = λ s stands.
    let text = c.args.text.now in
    let n = c.args.newline_too in
    let found = c.find_between_blanks.new in
    for_blanks n (λ (s : Separator). stretches_at text found.spans.items ++ pieces_from s n text found.rest ≡ stretches_at text c.args.spans.now.items ++ pieces_from s n text c.args.rest.now)
    (c.find_between_blanks.ensures.pieces n) s (subst (λ (k : Splitter). Stands s n k) c.in-Blanks.is stands)

pub returns-in-Ere-clause-same : goal.returns-in-Ere-clause-same
returns-in-Ere-clause-same c = λ s stands.
    let n = c.args.newline_too in
    same_ere n c.in-Ere.matcher c.find_fields.new.self c.find_fields.ensures.same s (subst (λ (k : Splitter). Stands s n k) c.in-Ere.is stands)
