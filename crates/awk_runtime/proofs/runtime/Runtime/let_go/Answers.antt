use Rattle.std.proofs.Common.{◌<◌, length, refl, arith}
use Rattle.awk_runtime.proofs.AppendWords.{slot_let_go, local_let_go}
use Rattle.awk_runtime.proofs.runtime.Runtime.let_go.Goals as goal

pub returns-then-slot-len : goal.returns-then-slot-len
returns-then-slot-len c =
    let within : c.in-Global.slot < length c.args.self.now.globals.items = omega (arith, c.len.ensures, c.if-slot-len.true, c.args.self.now.globals.ok.0) in
    rw c.in-Global.is (slot_let_go c.in-Global.slot within c.law_of_slots.ensures.own c.law_of_slots.ensures.distinct refl refl (record { names = refl; current = refl; arrays = refl; frames = refl; streams = refl; next = refl; input_seen = refl; inside = refl; status = refl; steps = refl }))

pub returns-in-Local : goal.returns-in-Local
returns-in-Local c = rw c.in-Local.is (local_let_go c.in-Local.index c.set_value.ensures (record { names = refl; current = refl; specials = refl; globals = refl; arrays = refl; streams = refl; next = refl; input_seen = refl; inside = refl; status = refl; steps = refl }))
