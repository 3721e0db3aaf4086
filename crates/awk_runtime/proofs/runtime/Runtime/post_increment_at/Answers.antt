use Rattle.std.proofs.Common.{◌≡◌, to_z, of_z, arith}
use Rattle.std.specs.Int.{w128}
use Rattle.std.proofs.lemmas.Int.{ints}
use Rattle.awk_runtime.proofs.PlaceWords.{post_updated}
use Rattle.awk_runtime.proofs.runtime.Runtime.post_increment_at.Goals as goal

pub returns-in-Some : goal.returns-in-Some
returns-in-Some c =
    let number : to_z w128 (of_z w128 c.in-Some.updated.before) ≡ c.in-Some.updated.before = omega (arith, ints) in
    rw number (post_updated c.args.operator c.args.place c.args.operand.now (rw c.by_one.ensures at c.in-Some.ensures.updated))
