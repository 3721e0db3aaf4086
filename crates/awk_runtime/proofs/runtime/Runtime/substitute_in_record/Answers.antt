use Rattle.std.proofs.Common.{◌≡◌, pos, to_z, refl, arith}
use Rattle.std.proofs.lemmas.Int.{ints}
use Rattle.std.proofs.lemmas.Result.{err_from_is_err_and}
use mir.Syntax.{w128}
use Rattle.awk_value.specs.declared.value.Value.TheVariants.{Number}
use Rattle.awk_value.specs.Values.{str_of}
use Rattle.awk_semantics.specs.Primitives.{record_text}
use Rattle.awk_storage.specs.declared.position.Place.TheVariants.{Field}
use Rattle.awk_runtime.specs.support.Spelled.{spelled}
use Rattle.awk_runtime.proofs.TextChanges.{in_read, substitute_ends, substitute_nothing, substitute_ends_later, substitute_gives}
use Rattle.awk_runtime.proofs.runtime.Runtime.substitute_in_record.Goals as goal

pub returns-in_err-exchange_in_record : goal.returns-in_err-exchange_in_record
returns-in_err-exchange_in_record c =
    let p = err_from_is_err_and c.from_residual.result c.from_residual.ensures.1 in
    let a = c.args in
    rw (p.1, p.2) (substitute_ends a.self.now.names.scalars Field (Number (pos 0)) (in_read a.self.now.names.scalars Field (Number (pos 0)) a.all (str_of a.replacement.now) record_text (spelled a.self.now.names a.pattern)) c.in_err-exchange_in_record.ensures)

pub returns-in-None : goal.returns-in-None
returns-in-None c =
    let a = c.args in
    substitute_nothing a.self.now.names.scalars Field (Number (pos 0)) (in_read a.self.now.names.scalars Field (Number (pos 0)) a.all (str_of a.replacement.now) record_text (spelled a.self.now.names a.pattern)) (rw c.in-None.is at c.in_ok-exchange_in_record.ensures)

pub returns-in_err-store_record-in-Some : goal.returns-in_err-store_record-in-Some
returns-in_err-store_record-in-Some c =
    let p = err_from_is_err_and c.from_residual-in_err-store_record-in-Some.result c.from_residual-in_err-store_record-in-Some.ensures.1 in
    let a = c.args in
    rw (p.1, p.2) (substitute_ends_later a.self.now.names.scalars Field (Number (pos 0)) (in_read a.self.now.names.scalars Field (Number (pos 0)) a.all (str_of a.replacement.now) record_text (spelled a.self.now.names a.pattern)) refl (rw c.in-Some.is at c.in_ok-exchange_in_record.ensures) c.in_err-store_record-in-Some.ensures)

pub returns-in_ok-store_record-in-Some : goal.returns-in_ok-store_record-in-Some
returns-in_ok-store_record-in-Some c =
    let a = c.args in
    let count : to_z w128 c.in-Some.exchanged.count ≡ pos c.in-Some.exchanged.count = omega (arith, ints) in
    rw count (substitute_gives a.self.now.names.scalars Field (Number (pos 0)) (in_read a.self.now.names.scalars Field (Number (pos 0)) a.all (str_of a.replacement.now) record_text (spelled a.self.now.names a.pattern)) refl (rw c.in-Some.is at c.in_ok-exchange_in_record.ensures) c.in_ok-store_record-in-Some.ensures)
