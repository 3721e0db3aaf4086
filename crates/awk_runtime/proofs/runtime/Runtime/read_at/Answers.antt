use Rattle.std.proofs.Common.{◌≡◌, to_z, of_z, arith}
use Rattle.std.specs.Int.{w128}
use Rattle.std.proofs.lemmas.Int.{ints}
use Rattle.std.proofs.lemmas.Result.{err_from_is_err_and}
use Rattle.awk_runtime.proofs.PlaceWords.{field_read, no_field_read}
use Rattle.awk_runtime.proofs.runtime.Runtime.read_at.Goals as goal

pub returns-in_err-number_of-in-Field : goal.returns-in_err-number_of-in-Field
returns-in_err-number_of-in-Field c =
    let p = err_from_is_err_and c.from_residual.result c.from_residual.ensures.1 in
    rw (p.1, p.2, c.in-Field.is) (no_field_read c.args.self.now.names.scalars c.args.operand.now c.in_err-number_of-in-Field.field-0.0 _ c.in_err-number_of-in-Field.ensures)

pub returns-in_ok-number_of-in-Field : goal.returns-in_ok-number_of-in-Field
returns-in_ok-number_of-in-Field c =
    let number : to_z w128 (of_z w128 c.in_ok-number_of-in-Field.field-0) ≡ c.in_ok-number_of-in-Field.field-0 = omega (arith, ints) in
    rw c.in-Field.is (field_read c.args.self.now.names.scalars c.args.operand.now c.in_ok-number_of-in-Field.field-0 c.in_ok-number_of-in-Field.ensures (rw number at c.read_field.ensures))
