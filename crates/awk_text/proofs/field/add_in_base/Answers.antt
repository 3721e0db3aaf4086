use Rattle.std.proofs.Common.{sym, ap, ◌∙◌, ◌-◌, take, drop}
use Rattle.std.proofs.lemmas.List.{take_rest}
use Rattle.awk_text.proofs.FieldLemmas.{shown_at}
use Rattle.awk_text.proofs.field.add_in_base.Goals as goal

pub returns-clause-text : goal.returns-clause-text
returns-clause-text c =
    let buffer = c.write_digits-start.new.buffer in
    let start = c.write_digits-start.result in
    shown_at c.args.directive.now c.args.notation c.args.prefix.now (take (64 - start) (drop start buffer)) _ c.args.out.now.items c.add_digits.new.out.items
    (ap (λ n. take (n - start) (drop start buffer)) (sym c.write_digits-start.ensures.size) ∙ take_rest buffer start ∙ c.write_digits-start.ensures.digits) c.in_ok-add_digits.ensures.text
