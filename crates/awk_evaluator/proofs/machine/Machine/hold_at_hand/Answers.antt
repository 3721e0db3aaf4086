use Rattle.std.proofs.Common.{arith}
use Rattle.awk_evaluator.proofs.OperandLines.{only_one}
use Rattle.awk_evaluator.proofs.machine.Machine.hold_at_hand.Goals as goal

pub returns-then-hold_field-clause-prints : goal.returns-then-hold_field-clause-prints
returns-then-hold_field-clause-prints g c = λ holds.
    let few = c.in-len1.len_below in
    let there = c.in-len1.len_at_least in
    rw (only_one c.args.operands.now c.operand-item.result (omega (arith, few, there)) c.operand-item.is) (c.hold_field.ensures.prints c.if-hold_field.true)
