use Rattle.std.proofs.Common.{◌≡◌, take}
use Rattle.awk_runtime.specs.support.Calling.{with_missing}
use Rattle.awk_runtime.proofs.runtime.Runtime.give_missing.Given as goal

abbrev pub invariant-loop-is_array : goal.invariant-loop-is_array
invariant-loop-is_array l = l.self ≡ with_missing (take l.is_array-index l.kinds) l.fn.self
