use Rattle.std.proofs.Common.{Err, refl, ◌∙◌}
use Rattle.std.proofs.lemmas.Result.{err_from_is_err_and}
use Rattle.awk_runtime.proofs.Prints.{line_same, values_printed, unprinted}
use Rattle.awk_runtime.proofs.Turns.{written}
use Rattle.awk_runtime.proofs.runtime.Runtime.print_values.Goals as goal

pub returns-in_err-make_line-clause-prints : goal.returns-in_err-make_line-clause-prints
returns-in_err-make_line-clause-prints g c =
    let p = err_from_is_err_and c.from_residual.result c.from_residual.ensures.1 in
    rw (p.1, p.2, c.in_err-make_line.ensures.fault) (unprinted _ _ (record { beside = written _ _ _ _; streams = refl }))

pub returns-in_err-print-clause-prints : goal.returns-in_err-print-clause-prints
returns-in_err-print-clause-prints g c =
    let p = err_from_is_err_and c.from_residual-in_err-print.result c.from_residual-in_err-print.ensures.1 in
    rw (p.1, p.2) (values_printed (Err c.in_err-print.field-0.0) _ c.args.values.now _ (c.deref.ensures.value ∙ c.in_ok-make_line.ensures.text ∙ line_same _ _ _ _ c.args.values.now c.special-between.ensures c.special-behind.ensures) (written _ _ _ _) c.in_err-print.ensures.told c.in_err-print.ensures.fault)

pub returns-clause-prints : goal.returns-clause-prints
returns-clause-prints g c =
    values_printed _ _ c.args.values.now _ (c.deref.ensures.value ∙ c.in_ok-make_line.ensures.text ∙ line_same _ _ _ _ c.args.values.now c.special-between.ensures c.special-behind.ensures) (written _ _ _ _) c.in_ok-print.ensures.told c.in_ok-print.ensures.fault
