use Rattle.std.proofs.Common.{◌≡◌, refl, to_z, of_z, arith}
use Rattle.std.specs.Int.{w128}
use Rattle.std.proofs.lemmas.Int.{ints}
use Rattle.awk_runtime.specs.support.Keys.{key_value}
use Rattle.awk_runtime.proofs.ElementWords.{element_changed, kept_runtime}
use Rattle.awk_runtime.proofs.runtime.Runtime.change_number_in.Goals as goal

pub returns-in_default-number_assigned-clause-kept : goal.returns-in_default-number_assigned-clause-kept
returns-in_default-number_assigned-clause-kept c = λ _. kept_runtime c.args.self.now c.number_at-number.result _ c.in-Some-value_mut.ensures.value

pub returns-clause-changes : goal.returns-clause-changes
returns-clause-changes c = λ _.
    let new : to_z w128 (of_z w128 c.in-Some-number_assigned.new) ≡ c.in-Some-number_assigned.new = omega (arith, ints) in
    let other : to_z w128 (of_z w128 c.args.n) ≡ c.args.n = omega (arith, ints) in
    let found = c.in-Some-number_assigned.ensures {u = tt} in
    rw (c.in-Some.ensures {u = tt}) (element_changed c.args.self.now c.args.array (key_value c.args.self.now.current.text c.args.key) c.number_at-number.result c.number_at-number.ensures (rw (c.in-Some.ensures {u = tt}) at c.in-Some-value_mut.ensures.value) refl _ c.args.n (rw (c.set_number.ensures, new) (rw other at found)))
