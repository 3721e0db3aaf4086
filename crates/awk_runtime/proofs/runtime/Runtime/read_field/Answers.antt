use Rattle.std.proofs.Common.{◌≡◌, refl, sym, ap, to_z, of_z, arith}
use Rattle.std.specs.Int.{w128}
use Rattle.std.proofs.lemmas.Int.{ints}
use Rattle.std.proofs.lemmas.Result.{err_from_is_err_and}
use Rattle.awk_semantics.specs.Faults.{of_record}
use Rattle.awk_runtime.proofs.Words.{field_changes, field_fails}
use Rattle.awk_runtime.proofs.runtime.Runtime.read_field.Goals as goal

pub returns-in_err-field : goal.returns-in_err-field
returns-in_err-field c =
    let p = err_from_is_err_and c.from_residual.result c.from_residual.ensures.1 in
    let number : to_z w128 (of_z w128 c.args.number) ≡ c.args.number = omega (arith, ints) in
    rw (p.1, p.2) (field_fails _ c.in_err-field.field-0.0 (rw number at c.in_err-field.ensures.field) (record { beside = record { names = refl; current = c.in_err-field.ensures.same; specials = refl; globals = refl; arrays = refl; frames = refl; next = refl; input_seen = refl; inside = refl; status = refl; steps = refl }; streams = refl }))

pub returns : goal.returns
returns c =
    let number : to_z w128 (of_z w128 c.args.number) ≡ c.args.number = omega (arith, ints) in
    field_changes _ (record { beside = record { names = refl; current = c.in_ok-field.ensures.same; specials = refl; globals = refl; arrays = refl; frames = refl; next = refl; input_seen = refl; inside = refl; status = refl; steps = refl }; streams = refl }) (sym (ap of_record ((rw number at c.in_ok-field.ensures.field) (λ e. (cc)))))
