use Rattle.std.proofs.Common.{◌<◌, ◌≤◌, length, refl, arith}
use Rattle.std.proofs.lemmas.Result.{err_from_is_err_and}
use Rattle.awk_runtime.proofs.Composition.{memory_changes}
use Rattle.awk_runtime.proofs.VariableWords.{slot_given, slot_not_given}
use Rattle.awk_runtime.proofs.runtime.Runtime.put_global.Goals as goal

pub returns-in_err-receive : goal.returns-in_err-receive
returns-in_err-receive c =
    let p = err_from_is_err_and c.from_residual.result c.from_residual.ensures.1 in
    rw (p.1, p.2) (memory_changes _ refl refl refl (omega arith))

pub returns-in_ok-receive : goal.returns-in_ok-receive
returns-in_ok-receive c =
    let within : c.args.slot < length c.args.self.now.globals.items = omega (arith, c.len.ensures, c.if-slot-len.true, c.args.self.now.globals.ok.0) in
    rw c.in_ok-receive.ensures.received (slot_given c.args.slot c.args.value within c.law_of_slots.ensures.own c.law_of_slots.ensures.distinct refl refl (record { names = refl; current = refl; arrays = refl; frames = refl; streams = refl; next = refl; input_seen = refl; inside = refl; status = refl; steps = refl }))

pub returns-else-slot-len : goal.returns-else-slot-len
returns-else-slot-len c =
    let past : length c.args.self.now.globals.items ≤ c.args.slot = omega (arith, c.len.ensures, c.if-slot-len.false, c.args.self.now.globals.ok.0) in
    slot_not_given c.args.slot c.args.value c.args.self.now past
