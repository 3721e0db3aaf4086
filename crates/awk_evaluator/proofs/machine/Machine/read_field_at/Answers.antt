use Rattle.std.proofs.Common.{refl, ◌∙◌}
use Rattle.std.proofs.lemmas.Result.{err_from_is_err_and}
use Rattle.awk_runtime.proofs.Composition.{then_changes, ends_changes}
use Rattle.awk_evaluator.proofs.machine.Machine.read_field_at.Goals as goal

pub returns-in_err-number : goal.returns-in_err-number
returns-in_err-number c =
    let p = err_from_is_err_and c.from_residual.result c.from_residual.ensures.1 in
    rw (p.1, p.2) (record { operands = refl; calls = c.in_err-number.ensures.callers; changes = ends_changes _ c.in_err-number.ensures })

pub returns : goal.returns
returns c = record { operands = refl; calls = c.read_at.ensures.callers ∙ c.in_ok-number.ensures.callers; changes = then_changes _ c.in_ok-number.ensures c.read_at.ensures }
