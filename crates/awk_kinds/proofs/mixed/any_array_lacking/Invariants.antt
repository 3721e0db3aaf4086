use Rattle.std.proofs.Common.{◌≡◌, drop}
use Rattle.std.specs.List.{list_any}
use Rattle.awk_kinds.specs.support.Mixed.{lacks_array}
use Rattle.awk_kinds.proofs.mixed.any_array_lacking.Given as goal

abbrev pub invariant-loop-name : goal.invariant-loop-name
invariant-loop-name l = list_any (lacks_array l.functions l.arrays) (drop l.name-index l.names) ≡ list_any (lacks_array l.functions l.arrays) l.names
