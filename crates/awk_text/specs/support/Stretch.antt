-- Where a stretch without a byte of a kind ends.
use Rattle.std.specs.Prelude.{◌≡◌, ◌<◌, ◌≤◌, ℕ, ◌+◌, Bool, true, false, if◌then◌else◌, List, length, slice_index}
use Rattle.std.specs.Int.{bit_at}

-- the stretch from here goes up to the first byte of the kind, or to the end of the text
pub record IsStretchEnd (test : ℕ → Bool) (text : List ℕ) (from end : ℕ) : Type 0 where
  pub high : from ≤ end
  pub within : end ≤ length text
  pub none : (k : ℕ) → from ≤ k → k < end → test (slice_index text k) ≡ false
  pub stops : end < length text → test (slice_index text end) ≡ true

-- whether the byte at a place is of a kind
abbrev pub is_kind_at : (kind : ℕ → Bool) (text : List ℕ) (place : ℕ) → Bool
is_kind_at kind text place = kind (slice_index text place)

-- of the n places from here on those that pass are marked, by a bit each, and nothing else is
pub record AreMarks (test : ℕ → Bool) (from n marks : ℕ) : Type 0 where
  pub each : (k : ℕ) → k < n → bit_at marks k ≡ (if test (from + k) then 1 else 0)
  pub none : (k : ℕ) → n ≤ k → bit_at marks k ≡ 0
