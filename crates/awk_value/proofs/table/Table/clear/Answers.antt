use Rattle.awk_value.proofs.Calls.{none-kept}
use Rattle.awk_value.proofs.table.Table.clear.Goals as goal

pub invariant_of-self : goal.invariant_of-self
invariant_of-self c =
    none-kept 0 c.clear.new.self c.clear_entries.new.entries.entries c.clear_entries-2.new.entries.entries c.clear.ensures
    c.clear_entries.ensures c.clear_entries-2.ensures
