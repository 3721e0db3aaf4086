use Rattle.std.proofs.Common.{◌≡◌, ◌++◌, drop}
use Rattle.awk_record.specs.definitions.Record.{joined_behind}
use Rattle.awk_record.proofs.assigned.append_behind.Given as goal

abbrev pub invariant-loop-value : goal.invariant-loop-value
invariant-loop-value l = l.text.items ++ joined_behind l.separator (drop l.value-index l.values) ≡ l.fn.text.items ++ joined_behind l.separator l.values
