use Rattle.std.proofs.Common.{refl, ◌∙◌, arith}
use Rattle.awk_evaluator.proofs.OperandLines.{none_left, next_behind}
use Rattle.awk_evaluator.proofs.machine.Machine.join_others.Goals as goal

pub loop-operand-init : goal.loop-operand-init
loop-operand-init c = record { same = refl; rest = λ after h. h }

pub loop-operand-preserved : goal.loop-operand-preserved
loop-operand-preserved c =
    let same = c.loop-operand.invariant.same in
    record {
      same = c.join_operand.ensures.same ∙ same;
      rest = λ after h. c.loop-operand.invariant.rest after
          (next_behind c.args.operands.now c.loop-operand.operand-index c.operand-item.result (omega arith) c.operand-item.is (rw same at (c.join_separator.ensures c.if-not-join_separator.false)) (rw same at (c.join_operand.ensures.appends c.if-not-join_operand.false)) h);
    }

pub returns-clause-appends : goal.returns-clause-appends
returns-clause-appends c = λ holds. c.loop-operand.invariant.rest c.loop-operand.line.items (none_left c.args.operands.now c.loop-operand.operand-index c.loop-operand-test.false)
