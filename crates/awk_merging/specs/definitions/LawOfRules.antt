-- What the rules of a program that sums up do where something was summed up before: what they do from no sums, and what they add
-- there is replayed on what was held.
use Rattle.std.specs.Prelude.{◌≡◌, ◌⊎◌, ◌≤◌, ◌+◌, ℕ, ℤ, Bool, true, false, List, [], ◌∷◌, Ok, Err}
use Rattle.awk_value.specs.declared.value.Value.{Value}
use Rattle.awk_value.specs.Arithmetic.{is_in_range}
use Rattle.awk_value.specs.Arrays.{Array}
use Rattle.awk_record.specs.Record.{RecordPair}
use Rattle.awk_kinds.specs.Names.{has_name}
use Rattle.awk_grammar.specs.Tree.{Item}
use Rattle.awk_semantics.specs.declared.halt.Halt.TheVariants as halt
use Rattle.awk_semantics.specs.declared.fault.Fault.TheVariants as fault
use Rattle.awk_semantics.specs.definitions.State.{State, Out, gives}
use Rattle.awk_semantics.specs.definitions.Primitives.{number_in, array_in}
use Rattle.awk_semantics.specs.definitions.Semantics.{Functions}
use Rattle.awk_semantics.specs.definitions.Items.{try_items, until_next}
use Rattle.awk_pieces.specs.definitions.Pieceable.{tells_apart}
use Rattle.awk_merging.specs.definitions.Gathering.{Table, IsFree, replayed, sums}
use Rattle.awk_merging.specs.definitions.Sums.{Sum}
use Rattle.awk_merging.specs.definitions.LawOfStates.{Tables, HoldsAll, state_reading}
use Rattle.awk_merging.specs.definitions.Mergeable.{own_in, sums_of_program, is_array_sum, is_variable_sum, knows, IsMergeable}

-- no key is in the table twice, and its numbers are in range
abbrev pub IsSound : Table ℤ → Type 0
IsSound [] = Unit {0}
IsSound (x ∷ xs) = (is_in_range x.1 ≡ true) × IsFree xs x.0 × IsSound xs

-- what is held where there was something before, and these tables were summed up from none
abbrev pub ahead : (before tables : Tables) → Tables
ahead before tables name = replayed sums (before name) (tables name)

-- the name stands for no array, and nothing is where one would be
abbrev pub IsNoArray : State → List ℕ → Type 0
IsNoArray s x = (has_name s.array_names x ≡ false) × (array_in s (number_in s.array_names x) ≡ [])

-- a state that holds sums, and one that held something before: all that a rule may read as it begins is the same in both, and there
-- are no other arrays but those of awk's own
pub record IsAhead (own : List ℕ → Bool) (xs : List Sum) (before : Tables) (s t : State) : Type 0 where
  pub tables : Tables
  pub here : HoldsAll s xs tables
  pub there : HoldsAll t xs (ahead before tables)
  pub sound : (name : List ℕ) → IsSound (tables name)
  pub sound_there : (name : List ℕ) → IsSound (ahead before tables name)
  pub variables : (x : List ℕ) → knows own xs x ≡ true → t.variables x ≡ s.variables x
  pub arrays : (x : List ℕ) → is_array_sum xs x ≡ false → tells_apart x ≡ false → IsNoArray s x × IsNoArray t x

-- the variables of sums and of the record alone changed
abbrev pub KeepsOthers : (own : List ℕ → Bool) → List Sum → (v w : List ℕ → Value) → Type 0
KeepsOthers own xs v w = (x : List ℕ) → is_variable_sum xs x ≡ false → own x ≡ false → w x ≡ v x

-- both runs ended well, showed nothing and spent as many steps, and the second state is ahead still
pub record GoAlong (own : List ℕ → Bool) (xs : List Sum) (before : Tables) (base base' : State) (left left' : List ℕ) (v w : List ℕ → Value) (k d : ℕ) (x y : Out (Unit {0})) : Type 0 where
  pub current : RecordPair
  pub arrays : List Array
  pub arrays' : List Array
  pub values : List ℕ → Value
  pub values' : List ℕ → Value
  pub steps : ℕ
  pub falls : steps ≤ k
  pub is : x ≡ gives tt (state_reading base left current arrays values steps)
  pub is' : y ≡ gives tt (state_reading base' left' current arrays' values' (steps + d))
  pub keeps : KeepsOthers own xs v values
  pub keeps' : KeepsOthers own xs w values'
  pub are_ahead : IsAhead own xs before (state_reading base left current arrays values steps) (state_reading base' left' current arrays' values' (steps + d))

-- where the rules end well on a record, they do from a state that is ahead what they do from the other one, or a sum leaves the range there
abbrev pub LawOfRules : Type 0
LawOfRules = (functions functions' : Functions) (items : List Item) → IsMergeable items → (before : Tables) (base base' : State) (left left' : List ℕ) (c : RecordPair) (arrays arrays' : List Array) (v w : List ℕ → Value) (k d m n : ℕ) →
    IsAhead (own_in items) (sums_of_program items) before (state_reading base left c arrays v k) (state_reading base' left' c arrays' w (k + d)) →
    (until_next (try_items functions m items) (state_reading base left c arrays v k)).result ≡ Ok tt →
    GoAlong (own_in items) (sums_of_program items) before base base' left left' v w k d (until_next (try_items functions m items) (state_reading base left c arrays v k)) (until_next (try_items functions' n items) (state_reading base' left' c arrays' w (k + d)))
    ⊎ ((until_next (try_items functions' n items) (state_reading base' left' c arrays' w (k + d))).result ≡ Err (halt.Fault fault.NumberOutOfRange))
