-- A text that stands in each match of a pattern, and how far another text is passed over for want of it.
use Rattle.std.specs.Prelude.{◌≡◌, ℕ, ◌+◌, ◌<◌, ◌≤◌, List, length, Option, Some, None, MatchOption, unwrap_or}
use Rattle.memchr.specs.Find.{OccursAt, FindsNeedle}
use Rattle.awk_ere.specs.definitions.Tree.{Tree, Matches}
use Rattle.awk_ere.specs.definitions.Means.{Means}
use Rattle.awk_ere.specs.declared.pattern.Pattern.{Pattern}

-- the bytes stand in the text between i and j
pub record StandsWithin (s needle : List ℕ) (i j : ℕ) : Type 0 where
  pub place : ℕ
  pub low : i ≤ place
  pub high : place + length needle ≤ j
  pub occurs : OccursAt s needle place

-- the bytes, of which there are some, stand in each match
pub record StandsInEach (needle : List ℕ) (p : Pattern) : Type 0 where
  pub some : 0 < length needle
  pub stands : (t : Tree) → Means t p → (s : List ℕ) (i j : ℕ) → i ≤ length s → Matches s t i j → ∥ StandsWithin s needle i j ∥₁

-- the bytes do, if there are any
abbrev pub IsRequired : Option (List ℕ) → Pattern → Type 0
IsRequired found p = (needle : List ℕ) → found ≡ Some needle → StandsInEach needle p

-- the text is passed over up to the first place where the bytes stand, or to its end
abbrev pub PassesOver : Option (List ℕ) → List ℕ → Option ℕ → Type 0
PassesOver required s r =
    MatchOption required (r ≡ None) (λ needle. (found : Option ℕ) × FindsNeedle s needle 0 found × (r ≡ Some (unwrap_or found (length s))))
