use Rattle.std.proofs.Common.{◌≡◌, suc, ◌+◌, [], ◌∷◌, sym, arith, append_assoc, append-nil}
use Rattle.awk_resolve.proofs.ListForms.{exprs_at, exprs_over}
use Rattle.awk_resolve.proofs.calls.forms_of.Goals as goal

pub loop-place-init : goal.loop-place-init
loop-place-init c = λ more are. rw c.new-forms.ensures.items are

pub loop-place-preserved : goal.loop-place-preserved
loop-place-preserved c = λ more are.
    let next : c.loop-place.place + 1 ≡ suc c.loop-place.place = omega arith in
    let list = c.args.list.now in
    rw (c.in_ok-push.ensures.items, append_assoc)
    (c.loop-place.invariant (c.in_ok-form_of.field-0 ∷ more) (rw (exprs_at list c.loop-place.place c.index-list-place.result (omega arith) (sym c.index-list-place.is)) (rw c.is_array_at.ensures at c.in_ok-form_of.ensures, rw next at are)))

pub returns : goal.returns
returns c = rw append-nil at (c.loop-place.invariant [] (rw (exprs_over c.args.list.now c.loop-place.place (omega arith)) tt))
