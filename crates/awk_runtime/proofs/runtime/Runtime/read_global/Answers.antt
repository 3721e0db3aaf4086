use Rattle.std.proofs.Common.{◌≡◌, ◌<◌, ◌≤◌, refl, sym, ap, ◌∙◌, length, Some, slice_get, arith}
use Rattle.std.proofs.lemmas.Bool.Decides.{nat_tests}
use Rattle.std.proofs.lemmas.Option.{slice_get_read}
use Rattle.std.proofs.lemmas.Result.{err_from_is_err_and}
use Rattle.awk_runtime.proofs.Composition.{memory_changes}
use Rattle.awk_runtime.proofs.VariableWords.{slot_read, slot_past}
use Rattle.awk_runtime.proofs.runtime.Runtime.read_global.Goals as goal

pub returns-in_err-clone-in-Some : goal.returns-in_err-clone-in-Some
returns-in_err-clone-in-Some c =
    let p = err_from_is_err_and c.from_residual.result c.from_residual.ensures.1 in
    rw (p.1, p.2) (memory_changes _ refl refl refl (omega arith))

pub returns-in_ok-clone-in-Some : goal.returns-in_ok-clone-in-Some
returns-in_ok-clone-in-Some c =
    let within : c.args.slot < length c.deref.result.now = grind (arith, nat_tests, c.in-Some.ensures.lookup.0) in
    let e : slice_get c.deref.result.now c.args.slot ≡ Some c.in-Some.value.now = slice_get_read _ (length c.deref.result.now) _ _ refl within c.in-Some.ensures.lookup.1 in
    slot_read c.args.slot c.args.self.now c.law_of_slots.ensures.own (rw c.deref.ensures.value at e ∙ ap Some (sym c.in_ok-clone-in-Some.ensures.cases))

pub returns-in-None : goal.returns-in-None
returns-in-None c =
    let past : length c.deref.result.now ≤ c.args.slot = grind (arith, nat_tests, c.in-None.ensures.lookup.0) in
    slot_past c.args.slot c.args.self.now (rw c.deref.ensures.value at past)
