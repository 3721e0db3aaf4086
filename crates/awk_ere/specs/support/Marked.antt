-- A pattern with a mark at each byte that was just read, and at each repeat whether its body is complete.
use Rattle.std.specs.Prelude.{◌≡◌, ℕ, Bool, true, false, ◌&&◌, ◌||◌, ◌⊎◌, List}
use Rattle.awk_ere.specs.definitions.Tree.{Class, has}
use Rattle.awk_ere.specs.definitions.Desugared.{Re, eps, one, first, last, cat, alt, plus, Many, MatchesRe}

pub data Marked : Type 0 where
  meps : Marked
  mone : Bool → Class → Marked
  mfirst : Marked
  mlast : Marked
  mcat : Marked → Marked → Marked
  malt : Marked → Marked → Marked
  mplus : Bool → Marked → Marked

-- the pattern without its marks
abbrev pub bare : Marked → Re
bare meps = eps
bare (mone b c) = one c
bare mfirst = first
bare mlast = last
bare (mcat p q) = cat (bare p) (bare q)
bare (malt p q) = alt (bare p) (bare q)
bare (mplus d p) = plus (bare p)

-- what leaves the pattern without a further byte: from a mark, or from the left where m holds
abbrev pub flow : Bool → Bool → Bool → Marked → Bool
flow st en m meps = m
flow st en m (mone b c) = b
flow st en m mfirst = m && st
flow st en m mlast = m && en
flow st en m (mcat p q) = flow st en (flow st en m p) q
flow st en m (malt p q) = flow st en m p || flow st en m q
flow st en m (mplus d p) = flow st en m p

-- the marks after the byte x. m enters from the left before it, g after it
abbrev pub step : Bool → Bool → ℕ → Bool → Bool → Marked → Marked
step st en x m g meps = meps
step st en x m g (mone b c) = mone (m && has c x) c
step st en x m g mfirst = mfirst
step st en x m g mlast = mlast
step st en x m g (mcat p q) =
    mcat (step st en x m g p) (step st en x (flow st en m p) (flow false false g (step st en x m g p)) q)
step st en x m g (malt p q) = malt (step st en x m g p) (step st en x m g q)
step st en x m g (mplus d p) =
    mplus (flow false false g (step st en x (m || d) g p)) (step st en x (m || d) g p)

-- no marks
abbrev pub fresh : Re → Marked
fresh eps = meps
fresh (one c) = mone false c
fresh first = mfirst
fresh last = mlast
fresh (cat a b) = mcat (fresh a) (fresh b)
fresh (alt a b) = malt (fresh a) (fresh b)
fresh (plus a) = mplus false (fresh a)

-- each repeat's flag says what leaves its body, where u enters from the left
abbrev pub IsFlagged : Bool → Bool → Marked → Type 0
IsFlagged st u meps = Unit {0}
IsFlagged st u (mone b c) = Unit {0}
IsFlagged st u mfirst = Unit {0}
IsFlagged st u mlast = Unit {0}
IsFlagged st u (mcat p q) = IsFlagged st u p × IsFlagged st (flow st false u p) q
IsFlagged st u (malt p q) = IsFlagged st u p × IsFlagged st u q
IsFlagged st u (mplus d p) = (d ≡ flow st false u p) × IsFlagged st u p

-- from a mark at k, the rest of the pattern matches up to j
abbrev pub Rest : List ℕ → Marked → ℕ → ℕ → Type 0
Rest s meps k j = ⊥
Rest s (mone b c) k j = (b ≡ true) × (k ≡ j)
Rest s mfirst k j = ⊥
Rest s mlast k j = ⊥
Rest s (mcat p q) k j = ((l : ℕ) × Rest s p k l × MatchesRe s (bare q) l j) ⊎ Rest s q k j
Rest s (malt p q) k j = Rest s p k j ⊎ Rest s q k j
Rest s (mplus d p) k j = (l : ℕ) × Rest s p k l × Many (MatchesRe s (bare p)) l j
