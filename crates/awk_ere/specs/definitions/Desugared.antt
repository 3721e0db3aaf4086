-- Patterns without counts: copies in the place of each count. By these a tree stands for instructions, and whether a text
-- has a match is decided; that they match as the tree does is what the laws on matching say.
use Rattle.std.specs.Prelude.{◌≡◌, ◌≤◌, ℕ, zero, suc, ◌-◌, true, ◌⊎◌, List, length, Some, slice_get}
use Rattle.awk_ere.specs.definitions.Tree.{Class, has, Count, star, some, option, exactly, at_least, between, Tree, empty, class, start, end, pieces, branches, repeat, Row, none, next, Times}

pub data Re : Type 0 where
  eps : Re
  one : Class → Re
  first : Re
  last : Re
  cat : Re → Re → Re
  alt : Re → Re → Re
  plus : Re → Re

abbrev pub Many : (ℕ → ℕ → Type 0) → ℕ → ℕ → Type 0
Many R i j = (n : ℕ) × Times R n i j

-- the pattern matches the text s from i to j
abbrev pub MatchesRe : List ℕ → Re → ℕ → ℕ → Type 0
MatchesRe s eps i j = i ≡ j
MatchesRe s (one c) i j = (b : ℕ) × (slice_get s i ≡ Some b) × (has c b ≡ true) × (j ≡ suc i)
MatchesRe s first i j = (i ≡ 0) × (j ≡ 0)
MatchesRe s last i j = (i ≡ length s) × (j ≡ length s)
MatchesRe s (cat a b) i j = (k : ℕ) × MatchesRe s a i k × MatchesRe s b k j
MatchesRe s (alt a b) i j = MatchesRe s a i j ⊎ MatchesRe s b i j
MatchesRe s (plus a) i j = (k : ℕ) × MatchesRe s a i k × Many (MatchesRe s a) k j

abbrev pub copies : ℕ → Re → Re
copies zero a = eps
copies (suc n) a = cat a (copies n a)

abbrev pub up_to : ℕ → Re → Re
up_to zero a = eps
up_to (suc n) a = alt (cat a (up_to n a)) eps

abbrev pub repeated : Count → Re → Re
repeated star a = alt (plus a) eps
repeated some a = plus a
repeated option a = alt a eps
repeated (exactly m) a = copies m a
repeated (at_least m) a = cat (copies m a) (alt (plus a) eps)
repeated (between m k) a = cat (copies m a) (up_to (k - m) a)

abbrev mutual
  pub desugar : Tree → Re
  desugar empty = eps
  desugar (class c) = one c
  desugar start = first
  desugar end = last
  desugar (pieces t row) = cat (desugar t) (desugar_all row)
  desugar (branches t row) = desugar_one (desugar t) row
  desugar (repeat t c) = repeated c (desugar t)

  pub desugar_all : Row → Re
  desugar_all none = eps
  desugar_all (next t row) = cat (desugar t) (desugar_all row)

  pub desugar_one : Re → Row → Re
  desugar_one a none = a
  desugar_one a (next t row) = alt a (desugar_one (desugar t) row)

-- the least count is not above the greatest one
abbrev pub IsCount : Count → Type 0
IsCount star = Unit {0}
IsCount some = Unit {0}
IsCount option = Unit {0}
IsCount (exactly m) = Unit {0}
IsCount (at_least m) = Unit {0}
IsCount (between m k) = m ≤ k

-- so are all counts of the pattern
abbrev mutual
  pub IsOrdered : Tree → Type 0
  IsOrdered empty = Unit {0}
  IsOrdered (class c) = Unit {0}
  IsOrdered start = Unit {0}
  IsOrdered end = Unit {0}
  IsOrdered (pieces t row) = IsOrdered t × AreOrdered row
  IsOrdered (branches t row) = IsOrdered t × AreOrdered row
  IsOrdered (repeat t c) = IsOrdered t × IsCount c

  pub AreOrdered : Row → Type 0
  AreOrdered none = Unit {0}
  AreOrdered (next t row) = IsOrdered t × AreOrdered row
