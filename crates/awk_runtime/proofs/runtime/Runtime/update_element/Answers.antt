use Rattle.std.proofs.Common.{◌≡◌, to_z, of_z, arith}
use Rattle.std.specs.Int.{w128}
use Rattle.std.proofs.lemmas.Int.{ints}
use Rattle.awk_runtime.proofs.ElementWords.{element_found_updated, kept_runtime}
use Rattle.awk_runtime.proofs.runtime.Runtime.update_element.Goals as goal

pub returns-in_default-update_of-clause-kept : goal.returns-in_default-update_of-clause-kept
returns-in_default-update_of-clause-kept c = kept_runtime c.args.self.now c.number_at-number.result _ c.in-Some.ensures.value

pub returns-clause-updated : goal.returns-clause-updated
returns-clause-updated c =
    let new : to_z w128 (of_z w128 c.in-Some-update_of.updated.after) ≡ c.in-Some-update_of.updated.after = omega (arith, ints) in
    let other : to_z w128 (of_z w128 c.args.n) ≡ c.args.n = omega (arith, ints) in
    rw c.of.ensures (element_found_updated c.args.self.now c.args.array c.args.key.now c.number_at-number.result c.number_at-number.ensures (rw c.of.ensures at c.in-Some.ensures.value) (rw new at c.set_number.ensures) c.args.operator c.args.n c.in-Some-update_of.ensures.before (rw other at c.in-Some-update_of.ensures.after))
