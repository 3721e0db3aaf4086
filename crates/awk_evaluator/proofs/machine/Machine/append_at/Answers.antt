use Rattle.std.proofs.Common.{refl}
use Rattle.std.proofs.lemmas.Result.{err_from_is_err_and}
use Rattle.awk_runtime.proofs.Composition.{ends_changes}
use Rattle.awk_evaluator.proofs.Appending.{ends_leaves, values_unread, values_behind}
use Rattle.awk_evaluator.proofs.machine.Machine.append_at.Goals as goal

pub returns-in_err-old : goal.returns-in_err-old
returns-in_err-old c =
    let p = err_from_is_err_and c.from_residual.result c.from_residual.ensures.1 in
    rw (p.1, p.2) (ends_leaves (ends_changes _ c.in_err-old.ensures))

pub returns-in_err-behind : goal.returns-in_err-behind
returns-in_err-behind c =
    let p = err_from_is_err_and c.from_residual-in_err-behind.result c.from_residual-in_err-behind.ensures.1 in
    rw (p.1, p.2) (values_unread c.args.place c.args.operand.now c.args.parts.now _ c.in_ok-old.ensures c.in_err-behind.ensures)

pub returns : goal.returns
returns c = values_behind c.args.place c.args.operand.now c.args.parts.now _ c.in_ok-old.ensures c.in_ok-behind.ensures refl c.in_ok-old.ensures.callers _ c.assign_appended.result c.assign_appended.ensures
