use Rattle.std.proofs.Common.{refl}
use Rattle.std.proofs.lemmas.Result.{err_from_is_err_and}
use Rattle.awk_evaluator.proofs.Joining.{assigned_read, not_read}
use Rattle.awk_evaluator.proofs.machine.Machine.assign_read.Goals as goal

pub returns-in_err-value : goal.returns-in_err-value
returns-in_err-value c =
    let p = err_from_is_err_and c.from_residual.result c.from_residual.ensures.1 in
    rw (p.1, p.2) (not_read c.args.variable c.args.operator c.args.operand.now c.in_err-value.ensures)

pub returns : goal.returns
returns c = assigned_read c.args.variable c.args.operator c.args.operand.now c.in_ok-value.ensures refl c.assign_by_at.ensures.callers (rw c.operator_of.ensures at c.assign_by_at.ensures)
