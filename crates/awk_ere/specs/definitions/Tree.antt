-- Classes of bytes.
use Rattle.std.specs.Prelude.{ℕ, Bool, false, List, map, slice_index_or, ◌≡◌, zero, suc, ◌+◌, ◌*◌, ◌≤◌, ◌⊎◌, length, Some, true, slice_get, ◌<◌, Option, None}
use Rattle.std.specs.List.{range_with_len}

-- how many bytes there are
abbrev pub byte_count : ℕ
byte_count = 256

-- for each byte, from 0 to 255, whether it is in the class
abbrev pub Class : Type 0
Class = List Bool

abbrev pub has : Class → ℕ → Bool
has c b = slice_index_or c b false

-- the class of the bytes that pass
abbrev pub class_of : (ℕ → Bool) → Class
class_of p = map p (range_with_len 0 byte_count)

-- ---- Patterns, and what they match (XBD 9.4).

-- a repeat, in the form that was written
pub data Count : Type 0 where
  star : Count
  some : Count
  option : Count
  exactly : ℕ → Count
  at_least : ℕ → Count
  between : ℕ → ℕ → Count

mutual
  -- the empty pattern, a byte of a class, the anchors, pieces one after another, branches, and a repeat
  pub data Tree : Type 0 where
    empty : Tree
    class : Class → Tree
    start : Tree
    end : Tree
    pieces : Tree → Row → Tree
    branches : Tree → Row → Tree
    repeat : Tree → Count → Tree

  -- the further pieces or branches
  pub data Row : Type 0 where
    none : Row
    next : Tree → Row → Row

-- the numbers of rounds that a repeat allows
abbrev pub Allowed : Count → ℕ → Type 0
Allowed star n = Unit {0}
Allowed some n = 1 ≤ n
Allowed option n = n ≤ 1
Allowed (exactly m) n = n ≡ m
Allowed (at_least m) n = m ≤ n
Allowed (between m k) n = (m ≤ n) × (n ≤ k)

-- a list of places from i to j, n rounds of R
abbrev pub Times : (ℕ → ℕ → Type 0) → ℕ → ℕ → ℕ → Type 0
Times R zero i j = i ≡ j
Times R (suc n) i j = (k : ℕ) × R i k × Times R n k j

-- the pattern matches the text s from i to j
abbrev mutual
  pub Matches : List ℕ → Tree → ℕ → ℕ → Type 0
  Matches s empty i j = i ≡ j
  Matches s (class c) i j = (b : ℕ) × (slice_get s i ≡ Some b) × (has c b ≡ true) × (j ≡ suc i)
  Matches s start i j = (i ≡ 0) × (j ≡ 0)
  Matches s end i j = (i ≡ length s) × (j ≡ length s)
  Matches s (pieces t row) i j = (k : ℕ) × Matches s t i k × MatchesAll s row k j
  Matches s (branches t row) i j = Matches s t i j ⊎ MatchesOne s row i j
  Matches s (repeat t c) i j = (n : ℕ) × Allowed c n × Times (Matches s t) n i j

  -- one after another
  pub MatchesAll : List ℕ → Row → ℕ → ℕ → Type 0
  MatchesAll s none i j = i ≡ j
  MatchesAll s (next t row) i j = (k : ℕ) × Matches s t i k × MatchesAll s row k j

  -- one of them
  pub MatchesOne : List ℕ → Row → ℕ → ℕ → Type 0
  MatchesOne s none i j = ⊥
  MatchesOne s (next t row) i j = Matches s t i j ⊎ MatchesOne s row i j

-- the size of a repeat whose body has this size
abbrev pub repeated_size : Count → ℕ → ℕ
repeated_size star n = n + 1
repeated_size some n = n + 1
repeated_size option n = n + 1
repeated_size (exactly m) n = m * n + 1
repeated_size (at_least m) n = (m + 1) * n + 1
repeated_size (between m k) n = k * n + 1

-- how large a pattern is
abbrev mutual
  pub size : Tree → ℕ
  size empty = 1
  size (class c) = 1
  size start = 1
  size end = 1
  size (pieces t row) = size t + pieces_size row
  size (branches t row) = size t + branches_size row
  size (repeat t c) = repeated_size c (size t)

  pub pieces_size : Row → ℕ
  pieces_size none = 0
  pieces_size (next t row) = size t + pieces_size row

  -- each with the bar before it
  pub branches_size : Row → ℕ
  branches_size none = 0
  branches_size (next t row) = 1 + size t + branches_size row

-- ---- What a search finds: the leftmost match, and of those the longest (XBD 9.1).

-- no match begins at a place from one up to another, which is left out
abbrev pub NoneFrom : Tree → List ℕ → ℕ → ℕ → Type 0
NoneFrom t s from to = (i j : ℕ) → from ≤ i → i < to → Matches s t i j → ⊥

-- the search from a place of the text finds the match, or nothing
abbrev pub Finds : Tree → List ℕ → ℕ → Option (ℕ × ℕ) → Type 0
Finds t s from None = (i j : ℕ) → from ≤ i → i ≤ length s → Matches s t i j → ⊥
Finds t s from (Some m) =
    (from ≤ m.0) × (m.0 ≤ length s) × NoneFrom t s from m.0
    × Matches s t m.0 m.1 × ((j : ℕ) → Matches s t m.0 j → j ≤ m.1)

-- the pattern matches somewhere in the text
abbrev pub Occurs : Tree → List ℕ → Type 0
Occurs t s = (i : ℕ) × (j : ℕ) × (i ≤ length s) × Matches s t i j
