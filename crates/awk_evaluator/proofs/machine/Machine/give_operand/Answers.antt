use Rattle.awk_evaluator.proofs.Computing.{given_callers}
use Rattle.std.proofs.Common.{refl}
use Rattle.std.proofs.lemmas.Result.{err_from_is_err_and}
use Rattle.awk_lex.specs.declared.token.AssignmentOperator.TheVariants.{Plain}
use Rattle.awk_evaluator.proofs.Joining.{given_read, not_read}
use Rattle.awk_evaluator.proofs.machine.Machine.give_operand.Goals as goal

pub returns-in_err-value : goal.returns-in_err-value
returns-in_err-value c =
    let p = err_from_is_err_and c.from_residual.result c.from_residual.ensures.1 in
    rw (p.1, p.2) (record { done = not_read c.args.variable Plain c.args.operand.now c.in_err-value.ensures })

pub returns : goal.returns
returns c = given_read c.args.variable Plain c.args.operand.now c.assign_variable.result c.in_ok-value.ensures refl (given_callers c.assign_variable.result c.assign_variable.ensures) c.assign_variable.ensures
