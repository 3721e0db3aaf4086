use Rattle.std.proofs.Common.{◌≡◌, ◌≤◌, ◌<◌, refl, sym, ap, length, Some, None, false, slice_get, unwrap_or, arith}
use Rattle.std.proofs.lemmas.Bool.Decides.{nat_tests}
use Rattle.std.proofs.lemmas.Option.{slice_get_read, slice_get_past}
use Rattle.awk_runtime.proofs.EndWords.{range_read}
use Rattle.awk_runtime.proofs.Steps.{still}
use Rattle.awk_runtime.proofs.runtime.Runtime.is_inside.Goals as goal

pub returns-in-Some : goal.returns-in-Some
returns-in-Some c =
    let within : c.args.number < length c.deref.result.now = grind (arith, nat_tests, c.in-Some.ensures.lookup.0) in
    let e : slice_get c.deref.result.now c.args.number ≡ Some c.in-Some.is_inside.now = slice_get_read _ (length c.deref.result.now) _ _ refl within c.in-Some.ensures.lookup.1 in
    range_read _ (still c.args.self.now) (ap (λ x. unwrap_or x false) (sym (rw c.deref.ensures.value at e)))

pub returns-in-None : goal.returns-in-None
returns-in-None c =
    let past : length c.deref.result.now ≤ c.args.number = grind (arith, nat_tests, c.in-None.ensures.lookup.0) in
    let e : slice_get c.args.self.now.inside.items c.args.number ≡ None = slice_get_past _ _ (rw c.deref.ensures.value at past) in
    range_read _ (still c.args.self.now) (ap (λ x. unwrap_or x false) (sym e))
