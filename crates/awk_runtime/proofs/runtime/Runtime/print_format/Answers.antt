use Rattle.std.proofs.Common.{Err, refl}
use Rattle.std.proofs.lemmas.Result.{err_from_is_err_and}
use Rattle.awk_runtime.proofs.Prints.{format_printed, format_fails}
use Rattle.awk_runtime.proofs.Turns.{written}
use Rattle.awk_runtime.proofs.runtime.Runtime.print_format.Goals as goal

pub returns-in_err-format_values-clause-prints : goal.returns-in_err-format_values-clause-prints
returns-in_err-format_values-clause-prints g c =
    let p = err_from_is_err_and c.from_residual.result c.from_residual.ensures.1 in
    rw (p.1, p.2) (λ functions. format_fails _ c.args.values.now c.in_err-format_values.field-0.0 c.in_err-format_values.ensures (record { beside = written _ _ _ _; streams = refl }))

pub returns-in_err-print-clause-prints : goal.returns-in_err-print-clause-prints
returns-in_err-print-clause-prints g c =
    let p = err_from_is_err_and c.from_residual-in_err-print.result c.from_residual-in_err-print.ensures.1 in
    rw (p.1, p.2) (λ functions. format_printed (Err c.in_err-print.field-0.0) _ c.args.values.now _ _ (c.in_ok-format_values.ensures {u = tt}) c.deref.ensures.value (written _ _ _ _) c.in_err-print.ensures.told c.in_err-print.ensures.fault)

pub returns-clause-prints : goal.returns-clause-prints
returns-clause-prints g c = λ functions. format_printed _ _ c.args.values.now _ _ (c.in_ok-format_values.ensures {u = tt}) c.deref.ensures.value (written _ _ _ _) c.in_ok-print.ensures.told c.in_ok-print.ensures.fault
