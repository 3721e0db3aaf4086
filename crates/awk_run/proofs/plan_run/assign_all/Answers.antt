use Rattle.std.proofs.Common.{sym, arith}
use Rattle.std.proofs.lemmas.Result.{err_from_is_err_and}
use Rattle.awk_run.proofs.Assigning.{assigns_end, assigns_halt, assigns_step, pair_at, pairs_over}
use Rattle.awk_run.proofs.plan_run.assign_all.Goals as goal

pub loop-assignment-preserved : goal.loop-assignment-preserved
loop-assignment-preserved c = λ new r h.
    c.loop-assignment.invariant new r (rw (pair_at c.args.assignments.now c.loop-assignment.assignment-index c.assignment-item.result (omega arith) (sym c.assignment-item.is)) (assigns_step (rw (c.deref.ensures.value, c.deref-in-loop-assignment.ensures.value) at (c.in_ok-assign_text.ensures)) h))

pub returns : goal.returns
returns c = c.loop-assignment.invariant _ _ (rw (pairs_over c.args.assignments.now c.loop-assignment.assignment-index (omega arith)) assigns_end)

pub returns-in_err-assign_text : goal.returns-in_err-assign_text
returns-in_err-assign_text c =
    let p = err_from_is_err_and c.from_residual.result c.from_residual.ensures.1 in
    rw (p.1, p.2) (c.loop-assignment.invariant _ _ (rw (pair_at c.args.assignments.now c.loop-assignment.assignment-index c.assignment-item.result (omega arith) (sym c.assignment-item.is)) (assigns_halt (rw (c.deref.ensures.value, c.deref-in-loop-assignment.ensures.value) at c.in_err-assign_text.ensures))))
