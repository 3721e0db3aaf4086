use Rattle.std.proofs.Common.{◌≡◌, ℕ, ◌<◌, ◌⊎◌, true, false, length, slice_index_or}
use Rattle.awk_ere.proofs.failures.unite.Given as goal

abbrev pub invariant-loop-n : goal.invariant-loop-n
invariant-loop-n l = (length l.row ≡ length l.initial.row)
    × ((m : ℕ) → slice_index_or l.row m false ≡ true → (slice_index_or l.initial.row m false ≡ true) ⊎ (slice_index_or l.positions m false ≡ true))
