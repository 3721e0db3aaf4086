use Rattle.std.proofs.Common.{◌≡◌, drop}
use Rattle.std.specs.List.{list_any}
use Rattle.awk_kinds.specs.support.Mixed.{passes_marked}
use Rattle.awk_kinds.proofs.mixed.any_array_passed.Given as goal

abbrev pub invariant-loop-array : goal.invariant-loop-array
invariant-loop-array l = list_any (passes_marked l.functions l.arrays) (drop l.array-index l.uses) ≡ list_any (passes_marked l.functions l.arrays) l.uses
