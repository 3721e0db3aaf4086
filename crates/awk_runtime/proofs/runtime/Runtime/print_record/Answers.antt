use Rattle.std.proofs.Common.{[], ◌∷◌}
use Rattle.std.proofs.lemmas.Result.{err_from_is_err_and}
use Rattle.awk_semantics.specs.Primitives.{print_line}
use Rattle.awk_runtime.proofs.Prints.{changed_and_printed, changed_and_ended}
use Rattle.awk_runtime.proofs.runtime.Runtime.print_record.Goals as goal

pub returns-in_err-text-clause-prints : goal.returns-in_err-text-clause-prints
returns-in_err-text-clause-prints g c =
    let p = err_from_is_err_and c.from_residual.result c.from_residual.ensures.1 in
    rw (p.1, p.2) (λ functions. changed_and_ended _ (λ v n. print_line n (v ∷ [])) c.in_err-text.ensures)

pub returns-clause-prints : goal.returns-clause-prints
returns-clause-prints g c = λ functions. changed_and_printed _ (λ v n. print_line n (v ∷ [])) (c.in_ok-text.ensures {u = tt}) c.print_values.ensures.prints
