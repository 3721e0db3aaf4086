use Rattle.std.proofs.Common.{◌≡◌, ◌<◌, Some, slice_get, length, refl, to_z, of_z, arith}
use Rattle.std.specs.Int.{w128}
use Rattle.std.proofs.lemmas.Int.{ints}
use Rattle.std.proofs.lemmas.Bool.Decides.{nat_tests}
use Rattle.std.proofs.lemmas.Option.{slice_get_read}
use Rattle.awk_runtime.proofs.NumberWords.{slot_raised}
use Rattle.awk_runtime.proofs.runtime.Runtime.raise_slot.Goals as goal

pub returns-clause-raises : goal.returns-clause-raises
returns-clause-raises c = λ _.
    let new : to_z w128 (of_z w128 c.in-Some-number_raised.new) ≡ c.in-Some-number_raised.new = omega (arith, ints) in
    let within : c.args.slot < length c.deref.result.now = grind (arith, nat_tests, c.in-Some.ensures.lookup.0) in
    let e : slice_get c.deref.result.now c.args.slot ≡ Some c.in-Some.old.now = slice_get_read _ (length c.deref.result.now) _ _ refl within c.in-Some.ensures.lookup.1 in
    let found = c.in-Some-number_raised.ensures {u = tt} in
    slot_raised c.args.slot (rw c.deref.ensures.value at e) c.law_of_slots.ensures.own c.law_of_slots.ensures.distinct refl refl
    (record { names = refl; current = refl; arrays = refl; frames = refl; streams = refl; next = refl; input_seen = refl; inside = refl; status = refl; steps = refl }) c.args.operator (rw (c.set_number.ensures, new) found)
