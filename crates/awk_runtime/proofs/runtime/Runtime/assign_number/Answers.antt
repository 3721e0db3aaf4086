use Rattle.std.proofs.Common.{◌≡◌, to_z, of_z, arith}
use Rattle.std.specs.Int.{w128}
use Rattle.std.proofs.lemmas.Int.{ints}
use Rattle.awk_runtime.proofs.PlaceWords.{plainly_numbered, by_numbered}
use Rattle.awk_runtime.proofs.runtime.Runtime.assign_number.Goals as goal

pub returns-then-put_number-clause-some : goal.returns-then-put_number-clause-some
returns-then-put_number-clause-some c =
    let number : to_z w128 (of_z w128 c.args.n) ≡ c.args.n = omega (arith, ints) in
    rw (number, c.in_default.is) (plainly_numbered c.args.variable c.args.n (rw number at (c.put_number.ensures.puts c.if-put_number.true)))

pub returns-clause-some : goal.returns-clause-some
returns-clause-some c =
    let number : to_z w128 (of_z w128 c.args.n) ≡ c.args.n = omega (arith, ints) in
    let after : to_z w128 (of_z w128 c.in_ok-updated.updated.after) ≡ c.in_ok-updated.updated.after = omega (arith, ints) in
    rw (after, c.in-Some.is) (by_numbered c.in-Some.operator c.args.variable c.args.n (rw number at c.in_ok-updated.ensures.updated))
