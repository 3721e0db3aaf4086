use Rattle.std.proofs.Common.{◌≡◌, ◌≤◌, ◌<◌, ℕ}
use Rattle.std.specs.Prelude.{false, not, slice_index_or}
use Rattle.awk_ere.proofs.reading.bracket.flip.Given as goal

abbrev pub invariant-loop-byte : goal.invariant-loop-byte
invariant-loop-byte l = record {
  done : (b : ℕ) → b < l.byte → slice_index_or l.set b false ≡ not (slice_index_or l.fn.set b false);
  left : (b : ℕ) → l.byte ≤ b → slice_index_or l.set b false ≡ slice_index_or l.fn.set b false;
}
