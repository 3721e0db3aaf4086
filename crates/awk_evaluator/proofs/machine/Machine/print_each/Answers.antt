use Rattle.awk_evaluator.proofs.Moving.{no_functions}
use Rattle.std.proofs.Common.{Ok, refl, sym, ◌∙◌}
use Rattle.std.proofs.lemmas.Result.{err_from_is_err_and}
use Rattle.awk_runtime.proofs.Composition.{change_simulates, ends_changes}
use Rattle.awk_evaluator.proofs.OperandPrints.{no_operand, some_operand, none_printed, operands_printed, operands_not_printed}
use Rattle.awk_evaluator.proofs.machine.Machine.print_each.Goals as goal

pub returns-then-is_empty-clause-prints : goal.returns-then-is_empty-clause-prints
returns-then-is_empty-clause-prints g c = none_printed c.args.operands.now c.print.result (no_operand c.args.operands.now (sym c.is_empty.ensures ∙ c.if-is_empty.true)) refl (c.print.ensures.follows no_functions).callers (λ functions. (c.print.ensures.follows functions).simulates)

pub returns-in_err-put_operands-clause-prints : goal.returns-in_err-put_operands-clause-prints
returns-in_err-put_operands-clause-prints g c =
    let p = err_from_is_err_and c.from_residual.result c.from_residual.ensures.1 in
    rw (p.1, p.2) (record { operands = tt; calls = tt; simulates = change_simulates (ends_changes _ (c.in_err-put_operands.ensures {u = tt}).puts) })

pub returns-then-hold_values-clause-prints : goal.returns-then-hold_values-clause-prints
returns-then-hold_values-clause-prints g c =
    let there = some_operand c.args.operands.now (sym c.is_empty.ensures ∙ c.if-is_empty.false) in
    operands_printed (Ok tt) there (c.in_ok-put_operands.ensures {u = tt}) c.newest-values.ensures c.drop.ensures (c.hold_values.ensures.follows c.if-hold_values.true no_functions).callers (λ functions. (c.hold_values.ensures.follows c.if-hold_values.true functions).simulates)

pub returns-in_err-print-clause-prints : goal.returns-in_err-print-clause-prints
returns-in_err-print-clause-prints g c =
    let there = some_operand c.args.operands.now (sym c.is_empty.ensures ∙ c.if-is_empty.false) in
    let kept = c.hold_values.ensures.kept c.if-hold_values.false in
    let p = err_from_is_err_and c.from_residual-in_err-print.result c.from_residual-in_err-print.ensures.1 in
    rw (p.1, p.2) (operands_not_printed there (c.in_ok-put_operands.ensures {u = tt}) c.newest-values.ensures (λ functions. (rw kept at (c.in_err-print.ensures.follows functions)).simulates))

pub returns-clause-prints : goal.returns-clause-prints
returns-clause-prints g c =
    let there = some_operand c.args.operands.now (sym c.is_empty.ensures ∙ c.if-is_empty.false) in
    let kept = c.hold_values.ensures.kept c.if-hold_values.false in
    operands_printed (Ok tt) there (c.in_ok-put_operands.ensures {u = tt}) c.newest-values.ensures c.drop-2.ensures (rw kept at (c.in_ok-print.ensures.follows no_functions)).callers (λ functions. (rw kept at (c.in_ok-print.ensures.follows functions)).simulates)
