use Rattle.std.proofs.Common.{◌≡◌, ◌<◌, refl, length, Some, slice_get, arith}
use Rattle.std.proofs.lemmas.Bool.Decides.{nat_tests}
use Rattle.std.proofs.lemmas.Option.{slice_get_read}
use Rattle.awk_runtime.proofs.VariableWords.{slot_read}
use Rattle.awk_runtime.proofs.runtime.Runtime.value_in_slot.Goals as goal

pub returns-in-Some : goal.returns-in-Some
returns-in-Some c =
    let within : c.args.slot < length c.deref.result.now = grind (arith, nat_tests, c.in-Some.ensures.lookup.0) in
    let e : slice_get c.deref.result.now c.args.slot ≡ Some c.in-Some.value.now = slice_get_read _ (length c.deref.result.now) _ _ refl within c.in-Some.ensures.lookup.1 in
    slot_read c.args.slot c.args.self.now c.law_of_slots.ensures.own (rw c.deref.ensures.value at e)
