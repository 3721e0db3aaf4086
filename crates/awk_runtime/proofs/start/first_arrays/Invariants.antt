use Rattle.std.proofs.Common.{◌≡◌, take}
use Rattle.awk_semantics.specs.Meaning.{first_arrays}
use Rattle.awk_runtime.specs.support.Beginning.{start_of}
use Rattle.awk_runtime.proofs.start.first_arrays.Given as goal

abbrev pub invariant-loop-number : goal.invariant-loop-number
invariant-loop-number l = l.arrays ≡ first_arrays (start_of l.operands l.environ) (take l.number l.names.arrays)
