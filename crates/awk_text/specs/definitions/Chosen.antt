-- Which matches of a regular expression are replaced. POSIX awk, "String Functions": sub the first, gsub all that don't
-- overlap; XBD 9.1: of several the one that begins first, and of those the longest.
use Rattle.std.specs.Prelude.{◌≡◌, ◌≢◌, ℕ, ◌≤◌, Bool, true, false, List, [], ◌∷◌, length, Option, None, Some}
use Rattle.awk_text.specs.declared.span.Span.{Span}
use Rattle.awk_ere.specs.definitions.Tree.{Tree, Matches}

-- the pattern matches this stretch of the text
abbrev pub IsMatch : Tree → (text : List ℕ) → Span → Type 0
IsMatch pattern text m = (m.start ≤ length text) × Matches text pattern m.start m.end

-- of the candidates the one that begins first, and of those the longest; or nothing, where there is none
abbrev pub IsLeftmostLongest : (Span → Type 0) → Option Span → Type 0
IsLeftmostLongest Candidate None = (m : Span) → Candidate m → ⊥
IsLeftmostLongest Candidate (Some best) =
    Candidate best
    × ((m : Span) → Candidate m → best.start ≤ m.start)
    × ((m : Span) → Candidate m → m.start ≡ best.start → m.end ≤ best.end)

-- not before the end of the match before, if there is one, and not the empty stretch there
abbrev pub Follows : (before : Option ℕ) → Span → Type 0
Follows None m = Unit {0}
Follows (Some end) m = (end ≤ m.start) × (m.start ≡ end → m.end ≢ end)

-- the match that is chosen at first, or after one with this end
abbrev pub IsNextMatch : Tree → (text : List ℕ) → (before : Option ℕ) → Option Span → Type 0
IsNextMatch pattern text before found = IsLeftmostLongest (λ m. IsMatch pattern text m × Follows before m) found

-- each is the next match after the one before, and behind the last there is none
abbrev pub AreMatches : Tree → (text : List ℕ) → (before : Option ℕ) → List Span → Type 0
AreMatches pattern text before [] = IsNextMatch pattern text before None
AreMatches pattern text before (m ∷ ms) =
    IsNextMatch pattern text before (Some m) × AreMatches pattern text (Some m.end) ms

-- the matches that are replaced: all of them, or the first alone
abbrev pub AreChosen : (all : Bool) → Tree → (text : List ℕ) → List Span → Type 0
AreChosen true pattern text ms = AreMatches pattern text None ms
AreChosen false pattern text [] = IsNextMatch pattern text None None
AreChosen false pattern text (m ∷ []) = IsNextMatch pattern text None (Some m)
AreChosen false pattern text (m ∷ next ∷ ms) = ⊥
