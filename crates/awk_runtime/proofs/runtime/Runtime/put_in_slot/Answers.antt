use Rattle.std.proofs.Common.{◌≡◌, ◌<◌, length, refl, to_z, of_z, arith}
use Rattle.std.specs.Int.{w128}
use Rattle.std.proofs.lemmas.Int.{ints}
use Rattle.awk_runtime.proofs.PlaceWords.{slot_numbered}
use Rattle.awk_runtime.proofs.runtime.Runtime.put_in_slot.Goals as goal

pub returns-clause-puts : goal.returns-clause-puts
returns-clause-puts c =
    let number : to_z w128 (of_z w128 c.args.n) ≡ c.args.n = omega (arith, ints) in
    let within : c.args.slot < length c.args.self.now.globals.items = omega (arith, c.len.ensures, c.if-slot-len.false, c.args.self.now.globals.ok.0) in
    λ _. rw number (slot_numbered c.args.slot c.args.n within c.law_of_slots.ensures.own c.law_of_slots.ensures.distinct refl refl (record { names = refl; current = refl; arrays = refl; frames = refl; streams = refl; next = refl; input_seen = refl; inside = refl; status = refl; steps = refl }))
