use Rattle.std.proofs.Common.{◌≡◌, refl, ap, ◌∙◌, to_z, of_z, arith}
use Rattle.std.specs.Int.{w128}
use Rattle.std.proofs.lemmas.Int.{ints}
use Rattle.std.proofs.lemmas.Result.{err_from_is_err_and}
use Rattle.awk_semantics.specs.Operators.{exit_status}
use Rattle.awk_runtime.proofs.EndWords.{status_set, status_fails}
use Rattle.awk_runtime.proofs.runtime.Runtime.set_status.Goals as goal

pub returns-in_err-number_of : goal.returns-in_err-number_of
returns-in_err-number_of c =
    let p = err_from_is_err_and c.from_residual.result c.from_residual.ensures.1 in
    rw (p.1, p.2) (status_fails _ c.in_err-number_of.field-0.0 _ c.in_err-number_of.ensures)

pub returns : goal.returns
returns c =
    let number : to_z w128 (of_z w128 c.in_ok-number_of.field-0) ≡ c.in_ok-number_of.field-0 = omega (arith, ints) in
    status_set c.args.value.now c.in_ok-number_of.field-0 c.in_ok-number_of.ensures (record { names = refl; current = refl; specials = refl; globals = refl; arrays = refl; frames = refl; streams = refl; next = refl; steps = refl }) refl refl (c.exit_status-self.ensures ∙ ap exit_status number)
