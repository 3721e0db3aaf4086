use Rattle.std.proofs.Common.{◌≡◌, ◌+◌, ◌-◌, true, length, sym, ap, ◌∙◌, arith}
use Rattle.awk_grammar.specs.Tree.{End}
use Rattle.awk_grammar.specs.View.{item_of, statements_of}
use Rattle.awk_kinds.proofs.Adding.{items_at, items_over}
use Rattle.awk_kinds.specs.definitions.Placed.{item_fits}
use Rattle.awk_resolve.proofs.ItemForms.{no_ends_added, end_added, action_ends, other_ends, end_is_action, item_in_place}
use Rattle.awk_resolve.proofs.builder.Builder.lower_end.Goals as goal

pub loop-i-init : goal.loop-i-init
loop-i-init c = rw (items_over c.args.items.now (length c.args.items.now) (omega arith)) (no_ends_added c.requires.over)

pub lower_action-requires-clause-action : goal.lower_action-requires-clause-action
lower_action-requires-clause-action c =
    let placed = item_in_place c.args.items.now (c.loop-i.i - 1) c.index-items-i.result (omega arith) (sym c.index-items-i.is) c.requires.in_place in
    let fits : item_fits (End (statements_of c.in-End.all.items)) ≡ true = sym (ap (λ x. item_fits (item_of x)) c.in-End.is) ∙ placed in
    rw c.deref.ensures.value (end_is_action (statements_of c.in-End.all.items) fits)

pub loop-i-preserved-in-End : goal.loop-i-preserved-in-End
loop-i-preserved-in-End c =
    let back : (c.loop-i.i - 1) + 1 ≡ c.loop-i.i = omega arith in
    let is = items_at c.args.items.now (c.loop-i.i - 1) c.index-items-i.result (omega arith) (sym c.index-items-i.is) in
    let action = rw c.deref.ensures.value at c.in_ok-next.ensures in
    rw (is, back, ap item_of c.in-End.is) (end_added _ _ c.loop-i.invariant (action_ends _ action))

pub loop-i-preserved : goal.loop-i-preserved
loop-i-preserved c =
    let back : (c.loop-i.i - 1) + 1 ≡ c.loop-i.i = omega arith in
    let is = items_at c.args.items.now (c.loop-i.i - 1) c.index-items-i.result (omega arith) (sym c.index-items-i.is) in
    rw (is, back) (end_added (item_of c.index-items-i.result) _ c.loop-i.invariant (other_ends c.index-items-i.result (λ all e. c.in_default.not-End all e) c.loop-i.invariant.holds.stands))
