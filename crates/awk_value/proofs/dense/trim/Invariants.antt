use Rattle.std.proofs.Common.{◌≡◌, vec_len}
use Rattle.awk_value.specs.support.DenseKeys.{numbered}
use Rattle.awk_value.proofs.dense.trim.Given as goal

abbrev pub invariant-loop-last : goal.invariant-loop-last
invariant-loop-last l = numbered 0 l.entries.items ≡ numbered 0 l.initial.entries.items

abbrev pub decreases-loop-last : goal.decreases-loop-last
decreases-loop-last l = vec_len l.entries
