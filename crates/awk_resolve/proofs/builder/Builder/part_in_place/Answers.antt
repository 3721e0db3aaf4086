use Rattle.awk_resolve.proofs.Building.{same}
use Rattle.awk_resolve.proofs.builder.Builder.part_in_place.Goals as goal

pub returns-in_default : goal.returns-in_default
returns-in_default c = rw (rw c.in_default.is at c.in_ok-operand.ensures) same

pub returns : goal.returns
returns c =
    let found = rw c.in-Some.is at c.in_ok-operand.ensures in
    rw (c.in_ok-push.ensures.items, c.new-operands.ensures.items) (record { extends = found.extends; are = (found.is, tt) })
