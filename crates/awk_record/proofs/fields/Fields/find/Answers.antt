use Rattle.std.proofs.Common.{inl, inr}
use Rattle.awk_text.specs.Separators.{separator_by}
use Rattle.awk_record.proofs.FoundFields.{found-more, found-same}
use Rattle.awk_record.proofs.fields.Fields.find.Goals as goal

pub returns-clause-fields : goal.returns-clause-fields
returns-clause-fields c =
    let text = c.args.text.now in
    let counted = c.count_split.new.self in
    let kept = c.count_split.ensures in
    let found = c.find_fields.ensures in
    found-more text counted _ (found-same text c.args.self.now counted c.requires kept.separator kept.spans kept.rest) found.same found.within found.pieces

pub returns-clause-found : goal.returns-clause-found
returns-clause-found c =
    let rule = c.find_fields.new.self in
    elim c.in_ok-find_fields.ensures.found [
      | inl lt ↦ inl lt
      | inr past ↦ inr (c.pieces_from_law.ensures.past (separator_by rule) rule.newline_too c.args.text.now c.find_fields.new.rest past)
    ]

pub returns-in_err-find_fields-clause-fields : goal.returns-in_err-find_fields-clause-fields
returns-in_err-find_fields-clause-fields c =
    let text = c.args.text.now in
    let counted = c.count_split.new.self in
    let kept = c.count_split.ensures in
    let found = c.find_fields.ensures in
    found-more text counted _ (found-same text c.args.self.now counted c.requires kept.separator kept.spans kept.rest) found.same found.within found.pieces
