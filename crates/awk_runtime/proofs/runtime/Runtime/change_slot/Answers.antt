use Rattle.std.proofs.Common.{◌≡◌, ◌<◌, Some, slice_get, length, refl, to_z, of_z, arith}
use Rattle.std.specs.Int.{w128}
use Rattle.std.proofs.lemmas.Int.{ints}
use Rattle.std.proofs.lemmas.Bool.Decides.{nat_tests}
use Rattle.std.proofs.lemmas.Option.{slice_get_read}
use Rattle.awk_runtime.proofs.NumberWords.{slot_changed}
use Rattle.awk_runtime.proofs.runtime.Runtime.change_slot.Goals as goal

pub returns-clause-changes : goal.returns-clause-changes
returns-clause-changes c = λ _.
    let new : to_z w128 (of_z w128 c.in-Some-number_assigned.new) ≡ c.in-Some-number_assigned.new = omega (arith, ints) in
    let other : to_z w128 (of_z w128 c.args.n) ≡ c.args.n = omega (arith, ints) in
    let within : c.args.slot < length c.deref.result.now = grind (arith, nat_tests, c.in-Some.ensures.lookup.0) in
    let e : slice_get c.deref.result.now c.args.slot ≡ Some c.in-Some.old.now = slice_get_read _ (length c.deref.result.now) _ _ refl within c.in-Some.ensures.lookup.1 in
    let found = c.in-Some-number_assigned.ensures {u = tt} in
    slot_changed c.args.slot (rw c.deref.ensures.value at e) c.law_of_slots.ensures.own c.law_of_slots.ensures.distinct refl refl
    (record { names = refl; current = refl; arrays = refl; frames = refl; streams = refl; next = refl; input_seen = refl; inside = refl; status = refl; steps = refl }) _ c.args.n (rw (c.set_number.ensures, new) (rw other at found))
