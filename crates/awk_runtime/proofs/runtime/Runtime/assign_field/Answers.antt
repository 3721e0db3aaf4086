use Rattle.std.proofs.Common.{◌≡◌, ap, to_z, of_z, arith}
use Rattle.std.specs.Int.{w128}
use Rattle.std.proofs.lemmas.Int.{ints}
use Rattle.std.proofs.lemmas.Result.{err_from_is_err_and}
use Rattle.awk_semantics.specs.Faults.{of_record}
use Rattle.awk_storage.specs.declared.position.Place.TheVariants.{Field}
use Rattle.awk_runtime.proofs.Steps.{still}
use Rattle.awk_runtime.proofs.Words.{field_changes}
use Rattle.awk_runtime.proofs.PlaceWords.{assigned, not_assigned, plainly_assigned, field_stored, no_field_stored, field_read}
use Rattle.awk_runtime.proofs.runtime.Runtime.assign_field.Goals as goal

pub returns-in_err-number : goal.returns-in_err-number
returns-in_err-number c =
    let p = err_from_is_err_and c.from_residual.result c.from_residual.ensures.1 in
    rw (p.1, p.2) (record {
      gives = plainly_assigned Field c.args.number.now c.args.value (not_assigned Field c.args.number.now c.args.value
          (no_field_stored c.args.self.now.names.scalars c.args.number.now c.args.value c.in_err-number.field-0.0 _ c.in_err-number.ensures));
    })

pub returns-in_err-set_field : goal.returns-in_err-set_field
returns-in_err-set_field c =
    let p = err_from_is_err_and c.from_residual-in_err-set_field.result c.from_residual-in_err-set_field.ensures.1 in
    let n = c.in_ok-number.number in
    let number : to_z w128 (of_z w128 n) ≡ n = omega (arith, ints) in
    let stored = field_stored c.args.self.now.names.scalars c.args.number.now c.args.value n c.in_ok-number.ensures (rw number at c.in_err-set_field.ensures) in
    rw (p.1, p.2) (record { gives = plainly_assigned Field c.args.number.now c.args.value (not_assigned Field c.args.number.now c.args.value stored) })

pub returns-in-Some : goal.returns-in-Some
returns-in-Some c =
    let n = c.in_ok-number.number in
    let number : to_z w128 (of_z w128 n) ≡ n = omega (arith, ints) in
    let stored = field_stored c.args.self.now.names.scalars c.args.number.now c.args.value n c.in_ok-number.ensures (rw number at c.in_ok-set_field.ensures) in
    let kept = c.in-Some.ensures {u = tt} in
    let read = field_read c.set_field.new.self.names.scalars c.args.number.now n c.in_ok-number.ensures (field_changes n (still c.set_field.new.self) (ap of_record (rw number at kept))) in
    record { gives = (_, plainly_assigned Field c.args.number.now c.args.value (assigned Field c.args.number.now c.args.value stored read)) }

pub returns-in_err-read_field : goal.returns-in_err-read_field
returns-in_err-read_field c =
    let p = err_from_is_err_and c.from_residual-in_err-read_field.result c.from_residual-in_err-read_field.ensures.1 in
    let n = c.in_ok-number.number in
    let number : to_z w128 (of_z w128 n) ≡ n = omega (arith, ints) in
    let stored = field_stored c.args.self.now.names.scalars c.args.number.now c.args.value n c.in_ok-number.ensures (rw number at c.in_ok-set_field.ensures) in
    let read = field_read c.set_field.new.self.names.scalars c.args.number.now n c.in_ok-number.ensures (rw number at c.in_err-read_field.ensures) in
    rw (p.1, p.2) (record { gives = plainly_assigned Field c.args.number.now c.args.value (assigned Field c.args.number.now c.args.value stored read) })

pub returns : goal.returns
returns c =
    let n = c.in_ok-number.number in
    let number : to_z w128 (of_z w128 n) ≡ n = omega (arith, ints) in
    let stored = field_stored c.args.self.now.names.scalars c.args.number.now c.args.value n c.in_ok-number.ensures (rw number at c.in_ok-set_field.ensures) in
    let read = field_read c.set_field.new.self.names.scalars c.args.number.now n c.in_ok-number.ensures (rw number at c.in_ok-read_field.ensures) in
    record { gives = (_, plainly_assigned Field c.args.number.now c.args.value (assigned Field c.args.number.now c.args.value stored read)) }
