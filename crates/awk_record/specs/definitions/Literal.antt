-- Where a word stands among bytes, told by the single bytes.
use Rattle.std.specs.Prelude.{◌≡◌, ◌≤◌, ◌<◌, ℕ, ◌+◌, List, length, slice_index}

pub record StandsAt (place : ℕ) (word bytes : List ℕ) : Type 0 where
  pub fits : place + length word ≤ length bytes
  pub reads : (k : ℕ) → k < length word → slice_index bytes (place + k) ≡ slice_index word k
