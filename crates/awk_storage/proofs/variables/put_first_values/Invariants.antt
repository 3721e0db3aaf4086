use Rattle.std.proofs.Common.{◌≡◌, take}
use Rattle.awk_storage.specs.support.SpecialValues.{with_rows}
use Rattle.awk_storage.proofs.variables.put_first_values.Given as goal

abbrev pub invariant-loop-own : goal.invariant-loop-own
invariant-loop-own l = l.values ≡ with_rows l.arguments l.initial.values (take l.own-index l.rows)
