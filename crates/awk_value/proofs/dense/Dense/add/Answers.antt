use Rattle.std.proofs.Common.{ap, length, arith}
use Rattle.awk_value.proofs.Places.{one-more, length-numbered}
use Rattle.awk_value.proofs.dense.Dense.add.Goals as goal

pub overflow_add-self : goal.overflow_add-self
overflow_add-self c =
    let new = c.put.new.entries in
    let more = one-more _ _ _ c.in_ok-put.ensures.added in
    let few = length-numbered 0 new.items in
    omega (arith, c.self.invariant, more, few, ap length c.reach.ensures.same, new.ok, new.small)

pub invariant_of-self-2 : goal.invariant_of-self-2
invariant_of-self-2 c =
    let more = one-more _ _ _ c.in_ok-put.ensures.added in
    omega (arith, c.self.invariant, more, ap length c.reach.ensures.same)
