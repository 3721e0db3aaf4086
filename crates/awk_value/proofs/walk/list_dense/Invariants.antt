use Rattle.std.proofs.Common.{◌≡◌, ◌-◌, ◌≤◌, ◌++◌, map, take, length}
use Rattle.std.specs.Fmt.{signed_decimal}
use Rattle.awk_value.specs.support.DenseKeys.{numbered}
use Rattle.awk_value.proofs.walk.list_dense.Given as goal

abbrev pub invariant-loop-number : goal.invariant-loop-number
invariant-loop-number l = record {
  within : l.number ≤ length l.entries;
  listed : l.rows ≡ l.initial.rows ++ map (λ e. (e.1.stamp, signed_decimal e.0)) (numbered 0 (take l.number l.entries));
}

abbrev pub decreases-loop-number : goal.decreases-loop-number
decreases-loop-number l = length l.entries - l.number
