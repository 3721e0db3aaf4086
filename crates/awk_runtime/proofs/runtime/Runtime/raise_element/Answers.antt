use Rattle.std.proofs.Common.{◌≡◌, to_z, of_z, arith}
use Rattle.std.specs.Int.{w128}
use Rattle.std.proofs.lemmas.Int.{ints}
use Rattle.awk_runtime.specs.support.Keys.{key_value}
use Rattle.awk_runtime.proofs.ElementWords.{element_raised, kept_runtime}
use Rattle.awk_runtime.proofs.runtime.Runtime.raise_element.Goals as goal

pub returns-in_default-update_of-clause-none : goal.returns-in_default-update_of-clause-none
returns-in_default-update_of-clause-none c = kept_runtime c.args.self.now c.number_at-number.result _ c.in-Some.ensures.value

pub returns-clause-some : goal.returns-clause-some
returns-clause-some c =
    let before : to_z w128 (of_z w128 c.in-Some-update_of.updated.before) ≡ c.in-Some-update_of.updated.before = omega (arith, ints) in
    let after : to_z w128 (of_z w128 c.in-Some-update_of.updated.after) ≡ c.in-Some-update_of.updated.after = omega (arith, ints) in
    rw (before, c.in_ok-subscript.ensures) (element_raised c.args.self.now c.args.array (key_value c.args.self.now.current.text c.args.key) c.number_at-number.result c.number_at-number.ensures (rw c.in_ok-subscript.ensures at c.in-Some.ensures.value) (rw after at c.set_number.ensures) c.args.operator c.in-Some-update_of.ensures.before (rw c.by_one.ensures at c.in-Some-update_of.ensures.after))

pub returns-then-begin_raised-clause-some : goal.returns-then-begin_raised-clause-some
returns-then-begin_raised-clause-some c = c.begin_raised.ensures.raises c.if-begin_raised.true
