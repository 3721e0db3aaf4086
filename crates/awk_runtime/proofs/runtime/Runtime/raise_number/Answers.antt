use Rattle.std.proofs.Common.{◌≡◌, to_z, of_z, arith}
use Rattle.std.specs.Int.{w128}
use Rattle.std.proofs.lemmas.Int.{ints}
use Rattle.awk_runtime.proofs.PlaceWords.{post_numbered}
use Rattle.awk_runtime.proofs.runtime.Runtime.raise_number.Goals as goal

pub returns-clause-some : goal.returns-clause-some
returns-clause-some c =
    let number : to_z w128 (of_z w128 c.in_ok-updated.updated.before) ≡ c.in_ok-updated.updated.before = omega (arith, ints) in
    rw number (post_numbered c.args.operator c.args.variable (rw c.by_one.ensures at c.in_ok-updated.ensures.updated))
