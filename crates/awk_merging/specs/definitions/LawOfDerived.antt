-- What the parts of the derived programs do: what the program's own do, and what is told of the statements and rules for sums.
use Rattle.std.specs.Prelude.{◌≡◌, ◌⊎◌, ℕ, false, List, [], ◌∷◌}
use Rattle.awk_grammar.specs.Tree.{Item}
use Rattle.awk_semantics.specs.definitions.State.{State}
use Rattle.awk_semantics.specs.definitions.Semantics.{Functions}
use Rattle.awk_semantics.specs.definitions.Items.{run_action, try_items, begin_items, end_items}
use Rattle.awk_merging.specs.definitions.Sums.{Sum, name_of_sum, is_taken, print_sums, reading_rules}
use Rattle.awk_merging.specs.definitions.LawOfReading.{IsAmong}
use Rattle.awk_merging.specs.definitions.Mergeable.{sums_of_program, IsMergeable}
use Rattle.awk_merging.specs.definitions.Derived.{each_of, all_of}

-- the sum is one of these
abbrev pub IsOneOf : Sum → List Sum → Type 0
IsOneOf x [] = ⊥
IsOneOf x (y ∷ ys) = (x ≡ y) ⊎ IsOneOf x ys

pub record LawOfDerived : Type 0 where
  -- a program's sums have names of their own, and none that is taken
  pub sums_apart : (items : List Item) (x : Sum) → IsOneOf x (sums_of_program items) → IsAmong x (sums_of_program items)
  pub sums_proper : (items : List Item) (x : Sum) → IsOneOf x (sums_of_program items) → is_taken (name_of_sum x) ≡ false
  -- on a piece: BEGIN and the rules do what the program's do, whatever the items' numbers, and behind the records the sums are
  -- printed
  pub each_begins : (functions : Functions) (items : List Item) (s : State) → begin_items functions (each_of items) s ≡ begin_items functions items s
  pub each_tries : (functions : Functions) (items : List Item) → IsMergeable items → (m n : ℕ) (s : State) → try_items functions m (each_of items) s ≡ try_items functions n items s
  pub each_ends : (functions : Functions) (items : List Item) (s : State) → end_items functions (each_of items) s ≡ run_action functions (print_sums (sums_of_program items)) s
  -- on what the pieces print: BEGIN and END do what the program's do, and the rules are those that read sums
  pub all_begins : (functions : Functions) (items : List Item) (s : State) → begin_items functions (all_of items) s ≡ begin_items functions items s
  pub all_tries : (functions : Functions) (items : List Item) (m n : ℕ) (s : State) → try_items functions m (all_of items) s ≡ try_items functions n (reading_rules (sums_of_program items)) s
  pub all_ends : (functions : Functions) (items : List Item) (s : State) → end_items functions (all_of items) s ≡ end_items functions items s
