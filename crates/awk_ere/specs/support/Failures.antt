-- What is kept of searches that read in vain.
use Rattle.std.specs.Prelude.{◌≡◌, ℕ, ◌*◌, ◌<◌, ◌≤◌, Bool, true, false, List, [], Option, Some, None, slice_get, slice_index_or}
use Rattle.std.specs.Global.{Vec}
use Rattle.awk_ere.specs.definitions.Tree.{Tree, Matches}
use Rattle.awk_ere.specs.definitions.Desugared.{desugar}
use Rattle.awk_ere.specs.definitions.Means.{Means}
use Rattle.awk_ere.specs.support.Marked.{Marked, bare, Rest}
use Rattle.awk_ere.specs.support.Simulation.{positions}
use Rattle.awk_ere.specs.declared.pattern.Pattern.{Pattern}
use Rattle.awk_ere.specs.declared.failures.Failures.{Failures}

abbrev pub is_set : Option (Vec Bool) → ℕ → Bool
is_set None n = false
is_set (Some row) n = slice_index_or row.items n false

-- whether the position n is set in the row with a number
abbrev pub is_marked : Failures → ℕ → ℕ → Bool
is_marked f number n = is_set (slice_get f.rows.items number) n

-- from the position n at the place k a match goes on to an end at j, whatever other positions there are
abbrev pub GoesOn : List ℕ → Tree → (k n j : ℕ) → Type 0
GoesOn s t k n j = (q : Marked) → bare q ≡ desugar t → slice_index_or (positions q []) n false ≡ true → Rest s q k j

-- each position that is set goes on to no end
abbrev pub AreFailures : Pattern → List ℕ → Failures → Type 0
AreFailures p s f = (t : Tree) → Means t p → (number n j : ℕ) → is_marked f number n ≡ true → GoesOn s t (number * f.spacing) n j → ⊥

-- of the matches that began before k, at a place that passes, none ends at k or behind
abbrev pub NoneGoesOn : List ℕ → Tree → (ℕ → Bool) → ℕ → Type 0
NoneGoesOn s t from k = (i j : ℕ) → from i ≡ true → i < k → k ≤ j → Matches s t i j → ⊥

-- of the matches that begin at a place that passes, none ends behind this place
abbrev pub NoneEndsBehind : Tree → List ℕ → (ℕ → Bool) → ℕ → Type 0
NoneEndsBehind t s from end = (i j : ℕ) → from i ≡ true → Matches s t i j → j ≤ end
