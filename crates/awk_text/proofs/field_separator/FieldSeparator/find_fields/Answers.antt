use Rattle.std.proofs.Common.{◌≡◌, ◌++◌, subst}
use Rattle.awk_text.specs.definitions.Pieces.{stretches_at}
use Rattle.awk_text.specs.definitions.Separators.{Rule, separator_of}
use Rattle.awk_text.specs.definitions.Fields.{pieces_from_by}
use Rattle.awk_text.proofs.SplitterStands.{stands_still, left_for}
use Rattle.awk_text.proofs.field_separator.FieldSeparator.find_fields.Goals as goal

pub invariant_of-self : goal.invariant_of-self
invariant_of-self c =
    let s = c.self.inside in
    stands_still (separator_of s.text.items) s.newline_too s.splitter c.find_fields.new.self c.find_fields.ensures.same c.self.invariant

pub returns-clause-pieces : goal.returns-clause-pieces
returns-clause-pieces c =
    let s = c.self.inside in
    let text = c.args.text.now in
    let old = stretches_at text c.args.spans.now.items in
    let new = stretches_at text c.find_fields.new.spans.items in
    let before = c.args.rest.now in
    let behind = c.find_fields.new.rest in
    subst (λ (rule : Rule). new ++ pieces_from_by rule text behind ≡ old ++ pieces_from_by rule text before) c.self.view_is
    (left_for (separator_of s.text.items) s.newline_too s.splitter text old new before behind c.find_fields.ensures.pieces c.self.invariant)
