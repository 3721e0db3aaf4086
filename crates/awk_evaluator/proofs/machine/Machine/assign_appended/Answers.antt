use Rattle.std.proofs.lemmas.Result.{err_from_is_err_and}
use Rattle.std.proofs.Common.{refl, ◌∙◌}
use Rattle.awk_evaluator.proofs.Appending.{leaves, variable_behind, place_behind, place_unjoined}
use Rattle.awk_evaluator.proofs.machine.Machine.assign_appended.Goals as goal

pub returns-in-Variable : goal.returns-in-Variable
returns-in-Variable c = rw c.in-Variable.is (leaves c.append_to.result (variable_behind c.in-Variable.variable c.args.operand.now c.args.old c.args.behind.now c.append_to.ensures) refl c.append_to.ensures.callers)

pub returns-in_err-text : goal.returns-in_err-text
returns-in_err-text c =
    let p = err_from_is_err_and c.from_residual.result c.from_residual.ensures.1 in
    rw (p.1, p.2) (leaves _ (place_unjoined c.args.place c.args.operand.now c.args.old c.args.behind.now c.in_err-text.ensures) refl c.in_err-text.ensures.callers)

pub returns : goal.returns
returns c = leaves c.assign_by_at.result (place_behind c.args.place c.args.operand.now c.args.old c.args.behind.now c.in_ok-text.ensures c.assign_by_at.ensures) refl (c.assign_by_at.ensures.callers ∙ c.in_ok-text.ensures.callers)
