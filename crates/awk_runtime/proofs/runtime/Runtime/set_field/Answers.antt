use Rattle.std.proofs.Common.{◌≡◌, pos, refl, ap, to_z, of_z, arith, sym, ◌∙◌}
use Rattle.std.specs.Int.{w128}
use Rattle.std.proofs.lemmas.Int.{ints}
use Rattle.std.proofs.lemmas.Result.{err_from_is_err_and}
use Rattle.awk_runtime.proofs.Composition.{memory_changes}
use Rattle.awk_runtime.proofs.Words.{whole_changes}
use Rattle.awk_runtime.proofs.runtime.Runtime.set_field.Goals as goal

pub returns-in_err-text_of : goal.returns-in_err-text_of
returns-in_err-text_of c =
    let p = err_from_is_err_and c.from_residual.result c.from_residual.ensures.1 in
    rw (p.1, p.2, c.in_err-text_of.ensures.fault) (memory_changes _ refl refl refl (omega arith))

pub returns-then-number-eq0 : goal.returns-then-number-eq0
returns-then-number-eq0 c =
    let zero : c.args.number ≡ pos 0 = omega (arith, ints) in
    rw zero (whole_changes c.args.value c.in_ok-text_of.field-0 c.in_ok-text_of.ensures.text c.set_record.ensures)

pub put_in_field-requires : goal.put_in_field-requires
put_in_field-requires c = λ e.
    let number : to_z w128 (of_z w128 c.args.number) ≡ c.args.number = omega (arith, ints) in
    c.if-number-eq0.false (ap (of_z w128) (sym number ∙ e))
