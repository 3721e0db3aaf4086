-- What END does on two states that hold the same sums: the same.
use Rattle.std.specs.Prelude.{◌≡◌, ◌≢◌, ◌<◌, ℕ, Bool, true, List, [], length, Err}
use Rattle.awk_kinds.specs.Names.{has_name}
use Rattle.awk_grammar.specs.Tree.{Item}
use Rattle.awk_semantics.specs.declared.halt.Halt.TheVariants as halt
use Rattle.awk_semantics.specs.definitions.State.{State, Out}
use Rattle.awk_semantics.specs.definitions.Primitives.{number_in, array_in}
use Rattle.awk_semantics.specs.definitions.Semantics.{Functions}
use Rattle.awk_semantics.specs.definitions.Items.{end_items}
use Rattle.awk_semantics.specs.definitions.Meaning.{outcome_of}
use Rattle.awk_merging.specs.definitions.Sums.{Sum}
use Rattle.awk_merging.specs.definitions.Mergeable.{own_in, sums_of_program, is_array_sum, is_shown, shows, IsMergeable}

-- a name stands for an array in both states or in neither, and both arrays have the same elements
pub record SameArray (s t : State) (x : List ℕ) : Type 0 where
  pub named : has_name t.array_names x ≡ has_name s.array_names x
  pub elements : array_in t (number_in t.array_names x) ≡ array_in s (number_in s.array_names x)

-- the name is an array's
abbrev pub IsArrayIn : State → List ℕ → Type 0
IsArrayIn s a = (has_name s.array_names a ≡ true) × (number_in s.array_names a < length s.arrays)

-- two states outside of calls in which all is the same that END may read, where it may read these variables
pub record ShowAlike (shown : List ℕ → Bool) (xs : List Sum) (s t : State) : Type 0 where
  pub variables : (x : List ℕ) → shown x ≡ true → t.variables x ≡ s.variables x
  pub arrays : (x : List ℕ) → is_shown x ≡ true → SameArray s t x
  pub summed : (a : List ℕ) → is_array_sum xs a ≡ true → IsArrayIn s a × IsArrayIn t a

-- both runs end alike and show the same
pub record EndAlike (x y : Out (Unit {0})) : Type 0 where
  pub outcome : outcome_of y.result y.state.status ≡ outcome_of x.result x.state.status
  pub effects : y.effects ≡ x.effects

-- where steps are enough, END does the same on both
abbrev pub LawOfEnd : Type 0
LawOfEnd = (functions functions' : Functions) (items : List Item) → IsMergeable items → (s t : State) → s.frames ≡ [] → t.frames ≡ [] → t.status ≡ s.status → ShowAlike (shows (own_in items)) (sums_of_program items) s t →
    (end_items functions items s).result ≢ Err halt.OutOfSteps → (end_items functions' items t).result ≢ Err halt.OutOfSteps → EndAlike (end_items functions items s) (end_items functions' items t)
