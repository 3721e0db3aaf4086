-- What a run shows before its end.
use Rattle.std.specs.Prelude.{ℕ, List, [], ◌∷◌}
use Rattle.awk_grammar.specs.Tree.{Item}
use Rattle.awk_semantics.specs.definitions.State.{Effect, Requested, Ends, State}
use Rattle.awk_semantics.specs.definitions.Meaning.{assign_and_run}

-- none of these says that the run is over
abbrev pub AreUnended : List Effect → Type 0
AreUnended [] = Unit {0}
AreUnended (Requested Ends ∷ effects) = ⊥
AreUnended (effect ∷ effects) = AreUnended effects

abbrev pub LawOfEnds : Type 0
LawOfEnds = (items : List Item) (limit : ℕ) (pre : List (List ℕ × List ℕ)) (s : State) → AreUnended (assign_and_run items limit pre s).effects
