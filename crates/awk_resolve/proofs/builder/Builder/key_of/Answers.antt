use Rattle.awk_resolve.proofs.Building.{same}
use Rattle.awk_resolve.proofs.builder.Builder.key_of.Goals as goal

pub returns-in_default : goal.returns-in_default
returns-in_default c = same

pub returns-then-is_concatenation : goal.returns-then-is_concatenation
returns-then-is_concatenation c = let only = rw c.in-Some.is at c.only.ensures in rw only c.joined_key.ensures

pub returns-in-Some-2 : goal.returns-in-Some-2
returns-in-Some-2 c =
    let only = rw c.in-Some.is at c.only.ensures in
    let found = rw c.in-Some-2.is at c.in_ok-operand.ensures in
    record { extends = found.extends; is = record { subscript = _; is = only; stands = found.is } }

pub returns-in-None : goal.returns-in-None
returns-in-None c = rw (rw c.in-None.is at c.in_ok-operand.ensures) same
