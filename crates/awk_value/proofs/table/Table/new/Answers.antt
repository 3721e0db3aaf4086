use Rattle.awk_value.proofs.Calls.{none-kept}
use Rattle.awk_value.proofs.table.Table.new.Goals as goal

pub invariant_of-result : goal.invariant_of-result
invariant_of-result c =
    none-kept 0 c.new.result c.with_hasher.result.entries c.with_hasher-2.result.entries c.new.ensures
    c.with_hasher.ensures.empty c.with_hasher-2.ensures.empty
