use Rattle.std.proofs.Common.{◌≡◌, to_z, of_z, arith}
use Rattle.std.specs.Int.{w128}
use Rattle.std.proofs.lemmas.Int.{ints}
use Rattle.awk_runtime.proofs.PlaceWords.{plainly_assigned, by_updated}
use Rattle.awk_runtime.proofs.runtime.Runtime.assign_by_at.Goals as goal

pub returns-in_default : goal.returns-in_default
returns-in_default c = rw c.in_default.is (plainly_assigned _ _ _ c.assign_at.ensures)

pub returns-in-Some-update_by : goal.returns-in-Some-update_by
returns-in-Some-update_by c =
    let number : to_z w128 (of_z w128 c.in-Some-update_by.updated.after) ≡ c.in-Some-update_by.updated.after = omega (arith, ints) in
    rw (number, c.in-Some.is) (by_updated c.in-Some.operator c.args.place c.args.operand.now c.args.value c.in-Some-update_by.ensures.updated)
