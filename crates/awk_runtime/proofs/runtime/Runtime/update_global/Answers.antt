use Rattle.std.proofs.Common.{◌≡◌, ◌<◌, Some, slice_get, length, refl, ap, ◌∙◌, to_z, of_z, arith}
use Rattle.std.specs.Int.{w128}
use Rattle.std.proofs.lemmas.Int.{ints}
use Rattle.std.proofs.lemmas.Bool.Decides.{nat_tests}
use Rattle.std.proofs.lemmas.Option.{slice_get_read}
use Rattle.awk_runtime.proofs.PlaceWords.{slot_updated}
use Rattle.awk_runtime.proofs.runtime.Runtime.update_global.Goals as goal

pub returns-clause-updated : goal.returns-clause-updated
returns-clause-updated c =
    let old : to_z w128 (of_z w128 c.in-Some-Number.before) ≡ c.in-Some-Number.before = omega (arith, ints) in
    let new : to_z w128 (of_z w128 c.in_ok-after.after) ≡ c.in_ok-after.after = omega (arith, ints) in
    let other : to_z w128 (of_z w128 c.args.n) ≡ c.args.n = omega (arith, ints) in
    let within : c.args.slot < length c.deref.result.now = grind (arith, nat_tests, c.in-Some-Number.ensures.lookup.0) in
    let e : slice_get c.deref.result.now c.args.slot ≡ Some c.in-Some-Number.field-0.now = slice_get_read _ (length c.deref.result.now) _ _ refl within c.in-Some-Number.ensures.lookup.1 in
    rw (old, new) (slot_updated c.args.operator c.args.slot c.args.n c.in-Some-Number.before c.in_ok-after.after (rw c.deref.ensures.value at e ∙ ap Some c.in-Some-Number.field-0-is) (rw (old, other) at (c.in_ok-after.ensures {u = tt})) c.law_of_slots.ensures.own c.law_of_slots.ensures.distinct refl refl
    (record { names = refl; current = refl; arrays = refl; frames = refl; streams = refl; next = refl; input_seen = refl; inside = refl; status = refl; steps = refl }))
