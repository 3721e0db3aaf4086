-- What the first of the derived programs does on a piece of the input: what the program does before its END, and then it prints
-- the sums.
use Rattle.std.specs.Prelude.{◌≡◌, ℕ, true, false, List, ◌++◌, bytes_eq, Ok}
use Rattle.awk_value.specs.declared.value.Value.{Value}
use Rattle.awk_grammar.specs.Tree.{Item}
use Rattle.awk_semantics.specs.definitions.State.{Effect, State, Out}
use Rattle.awk_semantics.specs.definitions.Semantics.{Functions}
use Rattle.awk_semantics.specs.definitions.Items.{has_rule, run_before_end, run_items}
use Rattle.awk_merging.specs.definitions.Sums.{merge_key}
use Rattle.awk_merging.specs.definitions.LawOfCells.{Held, sums_of, AreHeld, state_at, all_cells, steps_of_sums}
use Rattle.awk_merging.specs.definitions.Mergeable.{sums_of_program, IsMergeable}
use Rattle.awk_merging.specs.definitions.Derived.{each_of}

-- the run showed this, and then the cells, and changed no more than `merge_key`
pub record PrintsSums (base : State) (v : List ℕ → Value) (k : ℕ) (effects : List Effect) (held : Held) (out : Out (Unit {0})) : Type 0 where
  pub values : List ℕ → Value
  pub keeps : (x : List ℕ) → bytes_eq merge_key x ≡ false → values x ≡ v x
  pub is : out ≡ record { result = Ok tt; state = state_at base values k; effects = effects ++ all_cells held }

-- where the program before its END ends normally, showed this, and holds sums whose keys are lines, with steps enough
abbrev pub LawOfEach : Type 0
LawOfEach = (functions : Functions) (items : List Item) → IsMergeable items → has_rule items ≡ true → (s base : State) (v : List ℕ → Value) (held : Held) (effects : List Effect) (k : ℕ) →
    run_before_end functions items s ≡ record { result = Ok tt; state = state_at base v (steps_of_sums held k); effects = effects } → sums_of held ≡ sums_of_program items → AreHeld (state_at base v k) held →
    PrintsSums base v k effects held (run_items functions (each_of items) s)
