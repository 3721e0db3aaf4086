use Rattle.std.proofs.Common.{◌≡◌, to_z, of_z, arith}
use Rattle.std.specs.Int.{w128}
use Rattle.std.proofs.lemmas.Int.{ints}
use Rattle.std.proofs.lemmas.Result.{err_from_is_err_and}
use Rattle.awk_runtime.proofs.PlaceWords.{post_unread, post_no_number, post_refused, post_unstored, post_stored}
use Rattle.awk_runtime.proofs.runtime.Runtime.post_increment_any.Goals as goal

pub returns-in_err-old : goal.returns-in_err-old
returns-in_err-old c =
    let p = err_from_is_err_and c.from_residual.result c.from_residual.ensures.1 in
    rw (p.1, p.2) (post_unread _ _ _ c.in_err-old.ensures)

pub returns-in_err-number : goal.returns-in_err-number
returns-in_err-number c =
    let p = err_from_is_err_and c.from_residual-in_err-number.result c.from_residual-in_err-number.ensures.1 in
    rw (p.1, p.2) (post_no_number _ _ _ c.in_err-number.field-0.0 c.in_ok-old.ensures c.in_err-number.ensures)

pub returns-in_err-value : goal.returns-in_err-value
returns-in_err-value c =
    let p = err_from_is_err_and c.from_residual-in_err-value.result c.from_residual-in_err-value.ensures.1 in
    let number : to_z w128 (of_z w128 c.in_ok-number.number) ≡ c.in_ok-number.number = omega (arith, ints) in
    rw (p.1, p.2) (post_refused c.args.operator c.args.place c.args.operand.now c.in_ok-number.number c.in_ok-old.ensures c.in_ok-number.ensures (rw (number, c.by_one.ensures) at (c.in_err-value.ensures {u = tt})))

pub returns-in_err-store_at : goal.returns-in_err-store_at
returns-in_err-store_at c =
    let p = err_from_is_err_and c.from_residual-in_err-store_at.result c.from_residual-in_err-store_at.ensures.1 in
    let number : to_z w128 (of_z w128 c.in_ok-number.number) ≡ c.in_ok-number.number = omega (arith, ints) in
    rw (p.1, p.2) (post_unstored c.args.operator c.args.place c.args.operand.now c.in_ok-number.number c.in_ok-old.ensures c.in_ok-number.ensures (rw (number, c.by_one.ensures) at (c.in_ok-value.ensures {u = tt})) c.in_err-store_at.ensures)

pub returns : goal.returns
returns c =
    let number : to_z w128 (of_z w128 c.in_ok-number.number) ≡ c.in_ok-number.number = omega (arith, ints) in
    rw number (post_stored c.args.operator c.args.place c.args.operand.now c.in_ok-number.number c.in_ok-old.ensures c.in_ok-number.ensures (rw (number, c.by_one.ensures) at (c.in_ok-value.ensures {u = tt})) c.in_ok-store_at.ensures)
