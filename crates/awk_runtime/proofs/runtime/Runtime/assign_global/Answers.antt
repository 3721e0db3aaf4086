use Rattle.std.proofs.lemmas.Result.{err_from_is_err_and}
use Rattle.awk_value.specs.declared.value.Value.TheVariants.{Nothing}
use Rattle.awk_storage.specs.declared.position.Place.TheVariants as place
use Rattle.awk_storage.specs.declared.position.Variable.TheVariants.{Global}
use Rattle.awk_runtime.proofs.PlaceWords.{assigned, not_assigned, plainly_assigned}
use Rattle.awk_runtime.proofs.runtime.Runtime.assign_global.Goals as goal

pub returns-in_err-put_global : goal.returns-in_err-put_global
returns-in_err-put_global c =
    let p = err_from_is_err_and c.from_residual.result c.from_residual.ensures.1 in
    rw (p.1, p.2) (record { gives = plainly_assigned (place.Variable (Global c.args.slot)) Nothing c.args.value (not_assigned _ _ _ c.in_err-put_global.ensures) })

pub returns-in-Some : goal.returns-in-Some
returns-in-Some c = record { gives = (_, plainly_assigned (place.Variable (Global c.args.slot)) Nothing c.args.value (assigned _ _ _ c.in_ok-put_global.ensures (c.in-Some.ensures {u = tt}))) }

pub returns-in_err-read_variable : goal.returns-in_err-read_variable
returns-in_err-read_variable c =
    let p = err_from_is_err_and c.from_residual-in_err-read_variable.result c.from_residual-in_err-read_variable.ensures.1 in
    rw (p.1, p.2) (record { gives = plainly_assigned (place.Variable (Global c.args.slot)) Nothing c.args.value (assigned _ _ _ c.in_ok-put_global.ensures c.in_err-read_variable.ensures) })

pub returns : goal.returns
returns c = record { gives = (_, plainly_assigned (place.Variable (Global c.args.slot)) Nothing c.args.value (assigned _ _ _ c.in_ok-put_global.ensures c.in_ok-read_variable.ensures)) }
