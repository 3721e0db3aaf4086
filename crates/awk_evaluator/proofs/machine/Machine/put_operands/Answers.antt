use Rattle.std.proofs.Common.{◌≡◌, suc, ◌+◌, Ok, refl, sym, arith}
use Rattle.std.proofs.lemmas.Result.{err_from_is_err_and}
use Rattle.awk_evaluator.proofs.OperandPrints.{operands_at, operands_over, one_put, not_read, not_pushed, none_put}
use Rattle.awk_evaluator.proofs.machine.Machine.put_operands.Goals as goal

pub loop-operand-init : goal.loop-operand-init
loop-operand-init c = λ r m' p. p

pub loop-operand-preserved : goal.loop-operand-preserved
loop-operand-preserved c =
    let next : c.loop-operand.operand-index + 1 ≡ suc c.loop-operand.operand-index = omega arith in
    let at = operands_at c.args.operands.now c.loop-operand.operand-index c.operand-item.result (omega arith) (sym c.operand-item.is) in
    λ r m' p. c.loop-operand.invariant r m' (rw at (one_put _ _ c.loop-operand.self c.read_operand.new.self (record c.read_operand.new.self { operands = c.push.new.self }) c.in_ok-value.ensures c.in_ok-push.ensures.pushed refl refl (rw next at p)))

pub returns-in_err-value : goal.returns-in_err-value
returns-in_err-value c =
    let e = err_from_is_err_and c.from_residual.result c.from_residual.ensures.1 in
    let at = operands_at c.args.operands.now c.loop-operand.operand-index c.operand-item.result (omega arith) (sym c.operand-item.is) in
    rw (e.1, e.2) (c.loop-operand.invariant _ _ (rw at (not_read c.in_err-value.ensures)))

pub returns : goal.returns
returns c =
    let at = operands_over c.args.operands.now c.loop-operand.operand-index (omega arith) in
    c.loop-operand.invariant (Ok tt) c.loop-operand.self (rw at none_put)

pub returns-in_err-push : goal.returns-in_err-push
returns-in_err-push c =
    let e = err_from_is_err_and c.from_residual-in_err-push.result c.from_residual-in_err-push.ensures.1 in
    let at = operands_at c.args.operands.now c.loop-operand.operand-index c.operand-item.result (omega arith) (sym c.operand-item.is) in
    rw (e.1, e.2) (c.loop-operand.invariant _ _ (rw at (not_pushed c.in_ok-value.ensures refl)))
