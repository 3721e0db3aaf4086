use Rattle.std.proofs.Common.{◌≡◌, ◌<◌, refl, length, Some, slice_get, sym, ap, ◌∙◌, arith}
use Rattle.std.proofs.lemmas.Bool.Decides.{nat_tests}
use Rattle.std.proofs.lemmas.Option.{slice_get_read}
use Rattle.awk_value.specs.Values.{str_of}
use Rattle.awk_runtime.proofs.VariableWords.{slot_read, local_read, value_in}
use Rattle.awk_runtime.proofs.TextChanges.{room, exchanged_there}
use Rattle.awk_runtime.proofs.runtime.Runtime.exchange_in_variable.Goals as goal
use Rattle.awk_runtime.proofs.runtime.Runtime.exchange_in_variable.Goals.{in_default-via-in-Some+in_default, in_default-via-in_default}

pub returns-in-Some : goal.returns-in-Some
returns-in-Some c =
    let m = c.args.self.now in
    let within : c.in-Global.slot < length c.deref.result.now = grind (arith, nat_tests, c.in-Some.ensures.lookup.0) in
    let e : slice_get c.deref.result.now c.in-Global.slot ≡ Some c.in-Some.old.now = slice_get_read _ (length c.deref.result.now) _ _ refl within c.in-Some.ensures.lookup.1 in
    rw c.in-Global.is (exchanged_there c.args.all (str_of c.args.replacement.now) (slot_read c.in-Global.slot m c.law_of_slots.ensures.own (rw c.deref.ensures.value at e)) c.operand-pattern.ensures.spelling (room m c.exchange.new.self m.formats m.spans) c.exchange.ensures)

pub returns-in-Some-Value : goal.returns-in-Some-Value
returns-in-Some-Value c =
    let m = c.args.self.now in
    rw c.in-Local.is (exchanged_there c.args.all (str_of c.args.replacement.now) (local_read c.in-Local.index m (ap value_in (ap Some (sym c.in-Some-Value.field-0-is) ∙ c.in-Some-Value.ensures))) c.operand-pattern.ensures.spelling (room m c.exchange-in-Some-Value.new.self m.formats m.spans) c.exchange-in-Some-Value.ensures)

pub returns-in_default : goal.returns-in_default
returns-in_default c = elim c.in_default.branch [
  | in_default-via-in-Some+in_default w ↦ rw c.in-Local.is (rw w.self-is at c.exchange_in_copy-in_default.ensures)
  | in_default-via-in_default w ↦ rw c.in-Local.is (rw w.self-is at c.exchange_in_copy-in_default.ensures)
]
