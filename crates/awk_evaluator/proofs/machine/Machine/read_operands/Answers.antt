use Rattle.std.proofs.Common.{◌≡◌, suc, ◌+◌, [], ◌∷◌, Ok, Err, sym, arith, append-nil}
use Rattle.std.proofs.lemmas.Result.{err_from_is_err_and}
use Rattle.awk_evaluator.proofs.AppliedValues.{behind_none, behind_twice, values_behind, none_read, one_read, not_read, not_kept}
use Rattle.awk_evaluator.proofs.OperandPrints.{operands_at, operands_over}
use Rattle.awk_evaluator.proofs.machine.Machine.read_operands.Goals as goal

pub loop-operand-init : goal.loop-operand-init
loop-operand-init c = λ r m' p. rw (c.new-values.ensures.items, behind_none r) p

pub loop-operand-preserved : goal.loop-operand-preserved
loop-operand-preserved c =
    let next : c.loop-operand.operand-index + 1 ≡ suc c.loop-operand.operand-index = omega arith in
    let at = operands_at c.args.operands.now c.loop-operand.operand-index c.operand-item.result (omega arith) (sym c.operand-item.is) in
    let w = c.in_ok-value.value in
    λ r m' p. rw (c.in_ok-push.ensures.items, ← behind_twice c.loop-operand.values.items (w ∷ []) r)
    (c.loop-operand.invariant (values_behind (w ∷ []) r) m' (rw at (one_read _ r c.in_ok-value.ensures (rw next at p))))

pub returns-in_err-value : goal.returns-in_err-value
returns-in_err-value c =
    let e = err_from_is_err_and c.from_residual.result c.from_residual.ensures.1 in
    let at = operands_at c.args.operands.now c.loop-operand.operand-index c.operand-item.result (omega arith) (sym c.operand-item.is) in
    rw (e.1, e.2) (c.loop-operand.invariant (Err _) _ (rw at (not_read _ c.in_err-value.ensures)))

pub returns : goal.returns
returns c =
    let at = operands_over c.args.operands.now c.loop-operand.operand-index (omega arith) in
    rw append-nil at (c.loop-operand.invariant (Ok []) c.loop-operand.self (rw at none_read))

pub returns-in_err-push : goal.returns-in_err-push
returns-in_err-push c =
    let e = err_from_is_err_and c.from_residual-in_err-push.result c.from_residual-in_err-push.ensures.1 in
    let at = operands_at c.args.operands.now c.loop-operand.operand-index c.operand-item.result (omega arith) (sym c.operand-item.is) in
    rw (e.1, e.2) (c.loop-operand.invariant (Err _) _ (rw at (not_kept _ c.in_ok-value.ensures)))
