use Rattle.awk_text.proofs.FieldLemmas.{digits_at}
use Rattle.awk_text.proofs.field.add_digits.Goals as goal

pub returns-clause-text : goal.returns-clause-text
returns-clause-text c =
    digits_at c.args.directive.now c.args.prefix.now c.args.digits.now _ c.args.out.now.items c.add_padded.new.out.items c.leading_zeros-lead.result c.fills_with_zeros-zeros.result
    c.fills_with_zeros-zeros.ensures c.leading_zeros-lead.ensures.zeros c.in_ok-add_padded.ensures.text
