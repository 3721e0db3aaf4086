-- What the positions tell of a text that was read up to a place.
use Rattle.std.specs.Prelude.{◌≡◌, ℕ, ◌<◌, ◌≤◌, Bool, true, false, List, []}
use Rattle.awk_ere.specs.definitions.Tree.{Tree}
use Rattle.awk_ere.specs.definitions.Desugared.{Re, MatchesRe, desugar}
use Rattle.awk_ere.specs.support.Marked.{Marked, bare, IsFlagged, Rest}
use Rattle.awk_ere.specs.support.Simulation.{positions}
use Rattle.awk_ere.specs.support.Table.{IsState}
use Rattle.awk_ere.specs.support.Found.{LastEnd}
use Rattle.awk_ere.specs.declared.pattern.Pattern.{Pattern}
use Rattle.awk_ere.specs.declared.dfa.table.Table.{Table}
use Rattle.awk_ere.specs.declared.dfa.cursor.Cursor.{Cursor}

-- st says whether k is the start of the text
abbrev pub Starts : Bool → ℕ → Type 0
Starts st k = (st ≡ true → k ≡ 0) × (k ≡ 0 → st ≡ true)

-- the marks after k bytes of s stand for the matches of r that began before k, at a place that passes
pub record Tracks (s : List ℕ) (r : Re) (from : ℕ → Bool) (k : ℕ) (p : Marked) : Type 0 where
  pub same : bare p ≡ r
  pub flagged : (st : Bool) → Starts st k → IsFlagged st false p
  pub sound : (j : ℕ) → Rest s p k j → (i : ℕ) × (from i ≡ true) × (i < k) × MatchesRe s r i j
  pub complete : (i j : ℕ) → from i ≡ true → i < k → k ≤ j → MatchesRe s r i j → Rest s p k j

-- the positions stand for such marks
abbrev pub Runs : List ℕ → Tree → (ℕ → Bool) → ℕ → List Bool → Type 0
Runs s t from k cs = (p : Marked) × Tracks s (desugar t) from k p × (cs ≡ positions p [])

-- ---- What a cursor over a text by a table tells of it.

-- the state stands for the matches of t that began before the place, at a place that passes, and the last
-- of those that ended before the place is known
pub record Stood (p : Pattern) (tb : Table) (s : List ℕ) (t : Tree) (from : ℕ → Bool) (w : Cursor) : Type 0 where
  pub start : Bool
  pub positions : List Bool
  pub state : IsState p tb w.state start positions
  pub starts : Starts start w.place
  pub runs : Runs s t from w.place positions
  pub last : LastEnd t s from w.place w.end

-- m says of each place from one up to another whether it passes
abbrev pub Enters : (ℕ → Bool) → Bool → ℕ → ℕ → Type 0
Enters from m a b = (k : ℕ) → a ≤ k → k < b → m ≡ from k
