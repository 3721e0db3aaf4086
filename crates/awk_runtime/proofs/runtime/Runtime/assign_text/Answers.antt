use Rattle.std.proofs.Common.{true, false, sym, ◌∙◌, refl}
use Rattle.std.proofs.lemmas.Result.{err_from_is_err_and}
use Rattle.awk_runtime.proofs.NameWords.{text_refused, text_put}
use Rattle.awk_runtime.proofs.runtime.Runtime.assign_text.Goals as goal

pub returns-then-is_unassignable : goal.returns-then-is_unassignable
returns-then-is_unassignable c = text_refused c.args.name.now c.args.text.now true (sym c.is_unassignable.ensures ∙ c.if-is_unassignable.true) refl

pub returns-in_err-text : goal.returns-in_err-text
returns-in_err-text c =
    let p = err_from_is_err_and c.from_residual.result c.from_residual.ensures.1 in
    rw (p.1, p.2) (text_refused c.args.name.now c.args.text.now false (sym c.is_unassignable.ensures ∙ c.if-is_unassignable.false) c.in_err-text.ensures)

pub returns : goal.returns
returns c = text_put c.args.name.now c.args.text.now false (sym c.is_unassignable.ensures ∙ c.if-is_unassignable.false) c.in_ok-text.ensures c.put_outside.ensures
