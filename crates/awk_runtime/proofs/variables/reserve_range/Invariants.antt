use Rattle.std.proofs.Common.{◌≡◌, ℕ, ◌+◌, ◌-◌, false, vec_len, unwrap_or, slice_get}
use Rattle.awk_runtime.proofs.variables.reserve_range.Given as goal

abbrev pub invariant-loop-inside : goal.invariant-loop-inside
invariant-loop-inside l = (n : ℕ) → unwrap_or (slice_get l.inside.items n) false ≡ unwrap_or (slice_get l.fn.inside.items n) false

abbrev pub decreases-loop-inside : goal.decreases-loop-inside
decreases-loop-inside l = l.number + 1 - vec_len l.inside
