use Rattle.std.proofs.Common.{◌≡◌, ◌≤◌, ◌-◌, ℕ, vec_len, get_or}
use Rattle.awk_value.specs.declared.value.Value.TheVariants.{Nothing}
use Rattle.awk_runtime.proofs.start.unassigned.Given as goal

abbrev pub invariant-loop-values : goal.invariant-loop-values
invariant-loop-values l = record { low : vec_len l.values ≤ l.count; nothing : (i : ℕ) → get_or l.values.items i Nothing ≡ Nothing }

abbrev pub decreases-loop-values : goal.decreases-loop-values
decreases-loop-values l = l.count - vec_len l.values
