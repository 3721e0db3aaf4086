-- What the second of the derived programs does on the text of cells: what the program's END does where the sums of all cells are
-- held.
use Rattle.std.specs.Prelude.{◌≡◌, ◌<◌, ◌*◌, ◌^◌, ℕ, pos, false, List, [], ◌∷◌, ◌++◌, length, codes, bytes_eq, None, slice_get, unwrap_or}
use Rattle.awk_value.specs.declared.value.Value.{Value}
use Rattle.awk_value.specs.declared.value.Value.TheVariants as value
use Rattle.awk_value.specs.Values.{str_of}
use Rattle.awk_value.specs.Arrays.{Array}
use Rattle.awk_record.specs.Record.{RecordPair}
use Rattle.awk_world.specs.declared.world.InputKind.TheVariants as input
use Rattle.awk_grammar.specs.Tree.{Item}
use Rattle.awk_semantics.specs.definitions.State.{Effect, State, Out, gives}
use Rattle.awk_semantics.specs.definitions.Primitives.{number_in}
use Rattle.awk_semantics.specs.definitions.Semantics.{Functions}
use Rattle.awk_semantics.specs.definitions.Items.{begin_items, end_items, run_items}
use Rattle.awk_pieces.specs.definitions.LawOfPieces.{Gives}
use Rattle.awk_merging.specs.definitions.Sums.{Sum}
use Rattle.awk_merging.specs.definitions.LawOfStates.{Cells, text_of_cells, Tables, behind_cells, HoldsAll, AreAdded, AreReadings, is_counted, steps_of}
use Rattle.awk_merging.specs.definitions.Mergeable.{sums_of_program, is_array_sum, is_variable_sum}
use Rattle.awk_merging.specs.definitions.Derived.{all_of}

-- no input was opened and no call is active; the record at hand, the variables and the steps
abbrev pub state_begun : State → RecordPair → (List ℕ → Value) → ℕ → State
state_begun base c v k = record base { main = None; current = c; variables = v; frames = []; streams = []; next = 1; status = 0; input_seen = false; steps = k }

-- standard input, which wasn't opened before, gives the text of these cells; its records are lines, there are no operands, and
-- no record was read
pub record WillRead (base : State) (v : List ℕ → Value) (cells : Cells) : Type 0 where
  pub gives_text : Gives base.outside (text_of_cells cells)
  pub unopened : base.openings input.Standard [] ≡ 0
  pub few : 3 * length cells < 2 ^ 127
  pub rs : str_of (v (codes "RS")) ≡ 10 ∷ []
  pub argc : v (codes "ARGC") ≡ value.Number (pos 1)
  pub nr : v (codes "NR") ≡ value.Number (pos 0)

-- the run is what END does from a state that holds these sums, where other variables and arrays are as they were, so many steps are left
-- and nothing was printed
pub record EndsWith (functions : Functions) (items : List Item) (xs : List Sum) (tables : Tables) (array_names : List (List ℕ)) (arrays : List Array) (v : List ℕ → Value) (left : ℕ) (out : Out (Unit {0})) : Type 0 where
  pub before : State
  pub effects : List Effect
  pub readings : AreReadings effects
  pub holds : HoldsAll before xs tables
  pub keeps : (z : List ℕ) → is_variable_sum xs z ≡ false → is_counted z ≡ false → bytes_eq (codes "FILENAME") z ≡ false → before.variables z ≡ v z
  pub steps : before.steps ≡ left
  pub outside_calls : before.frames ≡ []
  pub status : before.status ≡ 0
  pub names : before.array_names ≡ array_names
  pub elsewhere : (z : List ℕ) → is_array_sum xs z ≡ false → unwrap_or (slice_get before.arrays (number_in array_names z)) [] ≡ unwrap_or (slice_get arrays (number_in array_names z)) []
  pub is : out ≡ record { result = (end_items functions items before).result; state = (end_items functions items before).state; effects = effects ++ (end_items functions items before).effects }

abbrev pub LawOfAll : Type 0
LawOfAll = (functions : Functions) (items : List Item) (base : State) (c : RecordPair) (v : List ℕ → Value) (cells : Cells) (tables : Tables) (left : ℕ) (s : State) →
    begin_items functions items s ≡ gives tt (state_begun base c v (steps_of cells left)) → WillRead base v cells →
    HoldsAll (state_begun base c v left) (sums_of_program items) tables → AreAdded (sums_of_program items) tables cells →
    EndsWith functions items (sums_of_program items) (behind_cells tables cells) base.array_names base.arrays v left (run_items functions (all_of items) s)
