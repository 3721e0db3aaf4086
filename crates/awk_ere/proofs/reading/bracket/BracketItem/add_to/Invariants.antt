use Rattle.std.proofs.Common.{◌≡◌, ◌≤◌, ◌<◌, ℕ}
use Rattle.std.specs.Prelude.{false, ◌||◌, slice_index_or}
use Rattle.awk_ere.specs.support.TokenValues.{holds}
use Rattle.awk_ere.proofs.reading.bracket.BracketItem.add_to.Given as goal

abbrev pub invariant-loop-byte : goal.invariant-loop-byte
invariant-loop-byte l = record {
  done : (b : ℕ) → b < l.byte → slice_index_or l.set b false ≡ (slice_index_or l.fn.set b false || holds l.self b);
  left : (b : ℕ) → l.byte ≤ b → slice_index_or l.set b false ≡ slice_index_or l.fn.set b false;
}
