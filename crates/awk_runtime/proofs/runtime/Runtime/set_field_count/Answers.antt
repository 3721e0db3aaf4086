use Rattle.std.proofs.Common.{◌≡◌, refl, ap, ◌∙◌, to_z, of_z, arith}
use Rattle.std.specs.Int.{w128}
use Rattle.std.proofs.lemmas.Int.{ints}
use Rattle.std.proofs.lemmas.Result.{err_from_is_err_and}
use Rattle.awk_value.specs.Values.{str_of}
use Rattle.awk_runtime.proofs.Composition.{memory_changes}
use Rattle.awk_runtime.proofs.Words.{nf_given, nf_lacked, count_set, count_refused}
use Rattle.awk_runtime.proofs.runtime.Runtime.set_field_count.Goals as goal

pub returns-in_err-count : goal.returns-in_err-count
returns-in_err-count c =
    let p = err_from_is_err_and c.from_residual.result c.from_residual.ensures.1 in
    rw (p.1, p.2) (nf_lacked _ c.in_err-count.field-0.0 _ c.in_err-count.ensures)

pub returns-in_err-separator : goal.returns-in_err-separator
returns-in_err-separator c =
    let p = err_from_is_err_and c.from_residual-in_err-separator.result c.from_residual-in_err-separator.ensures.1 in
    rw (p.1, p.2, c.in_err-separator.ensures.fault) (memory_changes _ refl refl refl (omega arith))

pub returns-in_err-set_count : goal.returns-in_err-set_count
returns-in_err-set_count c =
    let p = err_from_is_err_and c.from_residual-in_err-set_count.result c.from_residual-in_err-set_count.ensures.1 in
    let number : to_z w128 (of_z w128 c.in_ok-count.count) ≡ c.in_ok-count.count = omega (arith, ints) in
    rw (p.1, p.2) (nf_given c.args.value.now c.in_ok-count.ensures (count_refused c.in_ok-count.count c.in_ok-separator.separator c.in_err-set_count.field-0.0 (c.in_ok-separator.ensures.text ∙ ap str_of c.special.ensures) (rw number at c.in_err-set_count.ensures.refused)
    (record { beside = record { names = refl; current = c.in_err-set_count.ensures.err; specials = refl; globals = refl; arrays = refl; frames = refl; next = refl; input_seen = refl; inside = refl; status = refl; steps = refl }; streams = refl })))

pub returns : goal.returns
returns c =
    let number : to_z w128 (of_z w128 c.in_ok-count.count) ≡ c.in_ok-count.count = omega (arith, ints) in
    nf_given c.args.value.now c.in_ok-count.ensures (count_set c.in_ok-count.count c.in_ok-separator.separator (c.in_ok-separator.ensures.text ∙ ap str_of c.special.ensures) (rw number at c.in_ok-set_count.ensures.ok)
    (record { names = refl; specials = refl; globals = refl; arrays = refl; frames = refl; streams = refl; next = refl; input_seen = refl; inside = refl; status = refl; steps = refl }))
