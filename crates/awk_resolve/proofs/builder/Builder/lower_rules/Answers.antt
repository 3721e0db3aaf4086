use Rattle.std.proofs.Common.{◌≡◌, ◌+◌, ◌-◌, suc, length, sym, arith}
use Rattle.awk_kinds.proofs.Adding.{items_at, items_over}
use Rattle.awk_resolve.proofs.ItemForms.{no_rules_added, rule_added, item_in_place}
use Rattle.awk_resolve.proofs.builder.Builder.lower_rules.Goals as goal

pub loop-i-init : goal.loop-i-init
loop-i-init c = rw (items_over c.args.items.now (length c.args.items.now) (omega arith)) (no_rules_added (length c.args.items.now) c.requires.over)

pub lower_item-requires-clause-in_place : goal.lower_item-requires-clause-in_place
lower_item-requires-clause-in_place c = item_in_place c.args.items.now (c.loop-i.i - 1) c.index-items-i.result (omega arith) (sym c.index-items-i.is) c.requires.in_place

pub loop-i-preserved : goal.loop-i-preserved
loop-i-preserved c =
    let number : c.in_ok-number.number ≡ c.loop-i.i - 1 = c.in_ok-number.ensures in
    let back : (c.loop-i.i - 1) + 1 ≡ c.loop-i.i = omega arith in
    let later : c.loop-i.i ≡ suc c.in_ok-number.number = omega (arith, number) in
    let is = items_at c.args.items.now (c.loop-i.i - 1) c.index-items-i.result (omega arith) (sym c.index-items-i.is) in
    rw (is, back, ← number) (rule_added c.in_ok-number.number _ _ later c.loop-i.invariant c.in_ok-next.ensures)
