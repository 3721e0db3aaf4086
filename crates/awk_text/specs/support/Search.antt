-- What a search from a place finds, and where it lies.
use Rattle.std.specs.Prelude.{ℕ, ◌≤◌, List, length, Option}
use Rattle.awk_text.specs.declared.span.Span.{Span}
use Rattle.awk_ere.specs.definitions.Tree.{Tree, Matches}
use Rattle.awk_text.specs.definitions.Chosen.{IsMatch, IsLeftmostLongest}

-- the leftmost, then longest match that begins at a place or behind it
abbrev pub FindsFrom : Tree → (text : List ℕ) → (place : ℕ) → Option Span → Type 0
FindsFrom pattern text place found = IsLeftmostLongest (λ m. IsMatch pattern text m × (place ≤ m.start)) found

-- the stretch lies within the text, at a place or behind it
pub record LiesBehind (place : ℕ) (text : List ℕ) (m : Span) : Type 0 where
  pub behind : place ≤ m.start
  pub order : m.start ≤ m.end
  pub within : m.end ≤ length text

-- no longer match begins where this one does
abbrev pub IsLongest : Tree → (text : List ℕ) → Span → Type 0
IsLongest pattern text m = (end : ℕ) → Matches text pattern m.start end → end ≤ m.end
