use Rattle.std.proofs.Common.{◌≡◌, refl, ap, ◌∙◌, to_z, of_z, arith}
use Rattle.std.specs.Int.{w128}
use Rattle.std.proofs.lemmas.Int.{ints}
use Rattle.std.proofs.lemmas.Result.{err_from_is_err_and}
use Rattle.awk_value.specs.Values.{str_of}
use Rattle.awk_runtime.proofs.Composition.{memory_changes}
use Rattle.awk_runtime.proofs.Words.{field_set, field_refused}
use Rattle.awk_runtime.proofs.FieldWords.{field_given}
use Rattle.awk_runtime.proofs.runtime.Runtime.put_in_field.Goals as goal

pub returns-in_err-separator-clause-changes : goal.returns-in_err-separator-clause-changes
returns-in_err-separator-clause-changes c =
    let p = err_from_is_err_and c.from_residual.result c.from_residual.ensures.1 in
    rw (p.1, p.2, c.in_err-separator.ensures.fault) (memory_changes _ refl refl refl (omega arith))

pub returns-in_err-set_field-clause-changes : goal.returns-in_err-set_field-clause-changes
returns-in_err-set_field-clause-changes c =
    let p = err_from_is_err_and c.from_residual-in_err-set_field.result c.from_residual-in_err-set_field.ensures.1 in
    let number : to_z w128 (of_z w128 c.args.number) ≡ c.args.number = omega (arith, ints) in
    rw (p.1, p.2) (field_refused c.args.number c.args.value c.in_ok-separator.separator c.in_err-set_field.field-0.0 c.requires (c.in_ok-separator.ensures.text ∙ ap str_of c.special.ensures) (rw number at c.in_err-set_field.ensures.refused)
    (record { beside = record { names = refl; current = c.in_err-set_field.ensures.err; specials = refl; globals = refl; arrays = refl; frames = refl; next = refl; input_seen = refl; inside = refl; status = refl; steps = refl }; streams = refl }))

pub returns-clause-changes : goal.returns-clause-changes
returns-clause-changes c =
    let number : to_z w128 (of_z w128 c.args.number) ≡ c.args.number = omega (arith, ints) in
    field_set c.args.number c.args.value c.in_ok-separator.separator c.requires (c.in_ok-separator.ensures.text ∙ ap str_of c.special.ensures) (rw number at c.in_ok-set_field.ensures.ok)
    (record { names = refl; specials = refl; globals = refl; arrays = refl; frames = refl; streams = refl; next = refl; input_seen = refl; inside = refl; status = refl; steps = refl })

pub returns-clause-put : goal.returns-clause-put
returns-clause-put c =
    let number : to_z w128 (of_z w128 c.args.number) ≡ c.args.number = omega (arith, ints) in
    field_given c.args.number c.args.value c.in_ok-separator.separator c.requires (c.in_ok-separator.ensures.text ∙ ap str_of c.special.ensures) (rw number at c.in_ok-set_field.ensures.ok)
    (record { names = refl; specials = refl; globals = refl; arrays = refl; frames = refl; streams = refl; next = refl; input_seen = refl; inside = refl; status = refl; steps = refl })
