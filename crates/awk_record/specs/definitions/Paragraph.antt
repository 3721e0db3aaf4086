-- What a paragraph is, where blank lines separate records. POSIX awk, "Variables and Special Variables" (RS).
use Rattle.std.specs.Prelude.{◌≡◌, ◌≢◌, ◌<◌, ℕ, ◌+◌, ◌-◌, List, length, slice_index}
use Rattle.std.specs.List.{All}

abbrev pub AreNewline : List ℕ → Type 0
AreNewline bytes = All (λ b. b ≡ 10) bytes

-- some bytes that neither begin nor end with a newline, and no two newlines in a row
pub record IsParagraph (bytes : List ℕ) : Type 0 where
  pub some : 0 < length bytes
  pub begins : slice_index bytes 0 ≢ 10
  pub ends : slice_index bytes (length bytes - 1) ≢ 10
  pub single : (k : ℕ) → k + 1 < length bytes → slice_index bytes k ≡ 10 → slice_index bytes (k + 1) ≢ 10
