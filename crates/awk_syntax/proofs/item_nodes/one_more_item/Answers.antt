use Rattle.awk_syntax.proofs.ItemLists.{items_low, items_checked}
use Rattle.awk_syntax.proofs.item_nodes.one_more_item.Goals as goal

pub invariant_of-result : goal.invariant_of-result
invariant_of-result c =
    record { low = items_low c.in-Some.checked.items.items c.push.new.self.items c.in-Some-item.item.item c.in_ok-push.ensures.items c.in-Some.checked.low c.in-Some-item.item.low }

pub returns : goal.returns
returns c =
    rw (c.in-Some.is, c.in-Some-item.is) (items_checked c.in-Some.checked.items.items c.push.new.self.items c.in-Some-item.item.item c.in_ok-push.ensures.items c.in-Some.checked.low c.in-Some-item.item.low)
