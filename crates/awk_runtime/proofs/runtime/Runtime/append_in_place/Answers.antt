use Rattle.std.proofs.Common.{◌≡◌, ◌<◌, length, map, Some, slice_get, refl, arith}
use Rattle.std.specs.List.{concat}
use Rattle.std.proofs.lemmas.Result.{err_from_is_err_and}
use Rattle.std.proofs.lemmas.Option.{slice_get_read}
use Rattle.awk_value.specs.declared.value.Value.TheVariants as value
use Rattle.awk_value.specs.Values.{str_of}
use Rattle.awk_runtime.proofs.Composition.{memory_changes}
use Rattle.awk_runtime.proofs.AppendWords.{slot_appended}
use Rattle.awk_runtime.proofs.runtime.Runtime.append_in_place.Goals as goal

pub returns-in_err-append_each-clause-refused : goal.returns-in_err-append_each-clause-refused
returns-in_err-append_each-clause-refused c =
    let p = err_from_is_err_and c.from_residual.result c.from_residual.ensures.1 in
    rw (p.1, p.2, (c.in_err-append_each.ensures {u = tt}).fault) (λ run. memory_changes run refl refl refl (omega arith))

pub returns-clause-appends : goal.returns-clause-appends
returns-clause-appends c = λ _.
    let within : c.in-Global.slot < length c.args.self.now.globals.items = omega (arith, c.len.ensures, c.if-slot-len.false, c.args.self.now.globals.ok.0) in
    let at : slice_get c.args.self.now.globals.items c.in-Global.slot ≡ Some c.index_mut.result.now = slice_get_read _ (length c.args.self.now.globals.items) _ _ refl within c.index_mut.ensures.value in
    rw (c.in-Global.is, (c.in_ok-append_each.ensures {u = tt}).text) (slot_appended c.in-Global.slot c.index_mut.result.now (value.Text (concat (map str_of c.args.parts.now))) at c.law_of_slots.ensures.own c.law_of_slots.ensures.distinct refl refl (record { names = refl; current = refl; arrays = refl; frames = refl; streams = refl; next = refl; input_seen = refl; inside = refl; status = refl; steps = refl }))
