-- What the parts of a search find.
use Rattle.std.specs.Prelude.{◌≡◌, ◌↔◌, ℕ, suc, ◌<◌, ◌≤◌, Bool, true, ◌&&◌, nat_le, List, length, slice_get, Option, Some, None, IsSome, IfSome}
use Rattle.awk_ere.specs.definitions.Tree.{Tree, Matches, NoneFrom}

-- a place from one up to another
abbrev pub between : ℕ → ℕ → ℕ → Bool
between low high i = nat_le low i && nat_le i high

-- the end of a match, if there is one, is a place from one up to another
abbrev pub EndsWithin : ℕ → ℕ → Option ℕ → Type 0
EndsWithin low high end = IfSome end (λ e. (low ≤ e) × (e ≤ high))

-- the last place before n where a match ends that begins at a place that passes
abbrev pub LastEnd : Tree → List ℕ → (ℕ → Bool) → ℕ → Option ℕ → Type 0
LastEnd t s from n None = (i j : ℕ) → from i ≡ true → j < n → Matches s t i j → ⊥
LastEnd t s from n (Some e) =
    ((i : ℕ) × (from i ≡ true) × Matches s t i e) × ((i j : ℕ) → from i ≡ true → j < n → Matches s t i j → j ≤ e)

-- the last end of a match that begins at a place from low up to high, or if the first is wanted any end
abbrev pub EndsBetween : Bool → Tree → List ℕ → ℕ → ℕ → Option ℕ → Type 0
EndsBetween first t s low high r =
    (n : ℕ) × LastEnd t s (between low high) n r × (n ≤ length s → (first ≡ true) × IsSome r)

-- the end of the longest match that begins at i
abbrev pub Longest : Tree → List ℕ → ℕ → Option ℕ → Type 0
Longest t s i None = (j : ℕ) → Matches s t i j → ⊥
Longest t s i (Some j) = Matches s t i j × ((k : ℕ) → Matches s t i k → k ≤ j)

-- a match begins at a place from one up to another
abbrev pub OccursBetween : Tree → List ℕ → ℕ → ℕ → Type 0
OccursBetween t s low high = (i : ℕ) × (j : ℕ) × (low ≤ i) × (i ≤ high) × Matches s t i j

-- it ends at this place, or there is none
abbrev pub EndsAt : Tree → List ℕ → ℕ → ℕ → Option ℕ → Type 0
EndsAt t s low high None = OccursBetween t s low high → ⊥
EndsAt t s low high (Some e) = (i : ℕ) × (low ≤ i) × (i ≤ high) × Matches s t i e

-- the leftmost match at or behind a place begins here, or there is none
abbrev pub Begins : Tree → List ℕ → ℕ → Option ℕ → Type 0
Begins t s from None = (i j : ℕ) → from ≤ i → i ≤ length s → Matches s t i j → ⊥
Begins t s from (Some i) = (from ≤ i) × ((j : ℕ) × Matches s t i j) × NoneFrom t s from i

-- it begins between these places, or there is none
abbrev pub BeginsWithin : Tree → List ℕ → ℕ → Option (ℕ × ℕ) → Type 0
BeginsWithin t s from None = Begins t s from None
BeginsWithin t s from (Some w) = (from ≤ w.0) × NoneFrom t s from w.0 × OccursBetween t s w.0 w.1

-- it matches this byte, wherever it stands, and nothing else
abbrev pub IsOneByte : Tree → ℕ → Type 0
IsOneByte t byte = (s : List ℕ) (i j : ℕ) → Matches s t i j ↔ ((slice_get s i ≡ Some byte) × (j ≡ suc i))
