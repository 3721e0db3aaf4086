use Rattle.std.proofs.Common.{◌≡◌, ◌++◌, map}
use Rattle.std.specs.Fmt.{signed_decimal}
use Rattle.awk_value.proofs.walk.list_sparse.Given as goal

abbrev pub invariant-loop-key : goal.invariant-loop-key
invariant-loop-key l = l.rows ≡ l.initial.rows ++ map (λ k. (k.1.now.stamp, signed_decimal k.0.now)) l.yielded
