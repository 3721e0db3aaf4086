use Rattle.std.proofs.Common.{◌≡◌, ◌+◌, ◌-◌, true, length, sym, ap, ◌∙◌, arith}
use Rattle.awk_grammar.specs.Tree.{Begin}
use Rattle.awk_grammar.specs.View.{item_of, statements_of}
use Rattle.awk_kinds.proofs.Adding.{items_at, items_over}
use Rattle.awk_kinds.specs.definitions.Placed.{item_fits}
use Rattle.awk_resolve.proofs.ItemForms.{no_begins_added, begin_added, action_begins, other_begins, begin_is_action, item_in_place}
use Rattle.awk_resolve.proofs.builder.Builder.lower_begin.Goals as goal

pub loop-i-init : goal.loop-i-init
loop-i-init c = rw (items_over c.args.items.now (length c.args.items.now) (omega arith)) (no_begins_added c.requires.over)

pub lower_action-requires-clause-action : goal.lower_action-requires-clause-action
lower_action-requires-clause-action c =
    let placed = item_in_place c.args.items.now (c.loop-i.i - 1) c.index-items-i.result (omega arith) (sym c.index-items-i.is) c.requires.in_place in
    let fits : item_fits (Begin (statements_of c.in-Begin.all.items)) ≡ true = sym (ap (λ x. item_fits (item_of x)) c.in-Begin.is) ∙ placed in
    rw c.deref.ensures.value (begin_is_action (statements_of c.in-Begin.all.items) fits)

pub loop-i-preserved-in-Begin : goal.loop-i-preserved-in-Begin
loop-i-preserved-in-Begin c =
    let back : (c.loop-i.i - 1) + 1 ≡ c.loop-i.i = omega arith in
    let is = items_at c.args.items.now (c.loop-i.i - 1) c.index-items-i.result (omega arith) (sym c.index-items-i.is) in
    let action = rw c.deref.ensures.value at c.in_ok-next.ensures in
    rw (is, back, ap item_of c.in-Begin.is) (begin_added _ _ c.loop-i.invariant (action_begins _ action))

pub loop-i-preserved : goal.loop-i-preserved
loop-i-preserved c =
    let back : (c.loop-i.i - 1) + 1 ≡ c.loop-i.i = omega arith in
    let is = items_at c.args.items.now (c.loop-i.i - 1) c.index-items-i.result (omega arith) (sym c.index-items-i.is) in
    rw (is, back) (begin_added (item_of c.index-items-i.result) _ c.loop-i.invariant (other_begins c.index-items-i.result (λ all e. c.in_default.not-Begin all e) c.loop-i.invariant.holds.stands))
