use Rattle.std.proofs.Common.{◌≡◌, map, filter, take}
use Rattle.awk_kinds.specs.definitions.SpecialNames.{special_arrays}
use Rattle.awk_kinds.specs.definitions.Kinds.{in_array_use, globals_among}
use Rattle.awk_kinds.specs.support.Arrays.{is_marked}
use Rattle.awk_kinds.proofs.kinds.array_names.Given as goal

abbrev pub invariant-loop-array : goal.invariant-loop-array
invariant-loop-array l = l.names ≡ globals_among special_arrays (filter (is_marked l.arrays) (map in_array_use (take l.array-index l.uses)))
