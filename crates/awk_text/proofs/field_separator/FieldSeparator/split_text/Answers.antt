use Rattle.std.proofs.Common.{◌≡◌, subst}
use Rattle.std.specs.Prelude.{OnOk}
use Rattle.awk_text.specs.definitions.Pieces.{stretches_at}
use Rattle.awk_text.specs.definitions.Separators.{Rule, separator_of}
use Rattle.awk_text.specs.definitions.Fields.{pieces_by}
use Rattle.awk_text.proofs.SplitterStands.{stands_still, pieces_for}
use Rattle.awk_text.proofs.field_separator.FieldSeparator.split_text.Goals as goal

pub invariant_of-self : goal.invariant_of-self
invariant_of-self c =
    let s = c.self.inside in
    stands_still (separator_of s.text.items) s.newline_too s.splitter c.split_text.new.self c.split_text.ensures.same c.self.invariant

pub returns-clause-pieces : goal.returns-clause-pieces
returns-clause-pieces c =
    let s = c.self.inside in
    let text = c.args.text.now in
    let found = stretches_at text c.split_text.new.spans.items in
    subst (λ (rule : Rule). OnOk c.split_text.result (found ≡ pieces_by rule text)) c.self.view_is
    (pieces_for (separator_of s.text.items) s.newline_too s.splitter text c.split_text.result found c.split_text.ensures.pieces c.self.invariant)
