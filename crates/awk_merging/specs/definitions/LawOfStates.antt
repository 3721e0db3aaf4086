-- What the rules that read sums come to on the cells of a text, one after the other.
use Rattle.std.specs.Prelude.{◌≡◌, ◌<◌, ◌+◌, ◌*◌, ◌^◌, ℕ, Bool, ℤ, ◌+ℤ◌, pos, suc, true, false, List, [], ◌∷◌, ◌++◌, length, codes, bytes_eq, if◌then◌else◌, Some, slice_get, unwrap_or}
use Rattle.awk_value.specs.declared.value.Value.{Value}
use Rattle.awk_value.specs.declared.value.Value.TheVariants as value
use Rattle.awk_value.specs.Arithmetic.{is_in_range}
use Rattle.awk_value.specs.Arrays.{Array}
use Rattle.awk_value.specs.Values.{str_of}
use Rattle.awk_record.specs.definitions.Cut.{AtEnd, longest}
use Rattle.awk_record.specs.Record.{RecordPair}
use Rattle.awk_kinds.specs.Names.{has_name}
use Rattle.awk_semantics.specs.definitions.State.{OpensMain, RecordOfMain, Effect, Requested, State, Out, Run}
use Rattle.awk_semantics.specs.definitions.Semantics.{Functions}
use Rattle.awk_semantics.specs.definitions.Items.{try_items, until_next, each_record}
use Rattle.awk_semantics.specs.definitions.Primitives.{number_in}
use Rattle.awk_merging.specs.definitions.Gathering.{Table, updated, sums}
use Rattle.awk_merging.specs.definitions.Sums.{Sum, name_of_sum, merge_what, merge_key, reading_rules, is_taken, Holds, cell_text}
use Rattle.awk_merging.specs.definitions.LawOfCells.{IsLine}
use Rattle.awk_merging.specs.definitions.Mergeable.{is_array_sum, is_variable_sum}
use Rattle.awk_merging.specs.definitions.LawOfReading.{IsAmong, key_for, number_at}

-- a cell: a sum, a key and a number
pub record Cell : Type 0 where
  pub sum : Sum
  pub key : List ℕ
  pub number : ℤ

abbrev pub Cells : Type 0
Cells = List Cell

-- the text of cells, as they are printed
abbrev pub text_of_cells : Cells → List ℕ
text_of_cells [] = []
text_of_cells (x ∷ xs) = cell_text (name_of_sum x.sum) x.key x.number ++ text_of_cells xs

-- the table of each sum, by its name, and what they are behind the cells: each is an update of its sum at its key
abbrev pub Tables : Type 0
Tables = List ℕ → Table ℤ

abbrev pub with_cell : Tables → Cell → Tables
with_cell tables x name = if bytes_eq (name_of_sum x.sum) name then updated sums (tables name) (key_for x.sum x.key) x.number else tables name

abbrev pub behind_cells : Tables → Cells → Tables
behind_cells tables [] = tables
behind_cells tables (x ∷ xs) = behind_cells (with_cell tables x) xs

-- the state holds these sums, of which none has a name that is taken
abbrev pub HoldsAll : State → List Sum → Tables → Type 0
HoldsAll s [] tables = Unit {0}
HoldsAll s (x ∷ xs) tables = (is_taken (name_of_sum x) ≡ false) × Holds s x (tables (name_of_sum x)) × HoldsAll s xs tables

-- a text that is a record: a line that isn't too long
abbrev pub IsRecord : List ℕ → Type 0
IsRecord text = IsLine text × (length text < longest)

-- cells of these sums, each of whose lines is a record, and by which no sum leaves the range
abbrev pub AreAdded : List Sum → Tables → Cells → Type 0
AreAdded xs tables [] = Unit {0}
AreAdded xs tables (x ∷ cells) =
    IsAmong x.sum xs
    × IsRecord (name_of_sum x.sum)
    × IsRecord x.key
    × (is_in_range x.number ≡ true)
    × (is_in_range (number_at (tables (name_of_sum x.sum)) (key_for x.sum x.key) +ℤ x.number) ≡ true)
    × AreAdded xs (with_cell tables x) cells

-- the main input is open, with these bytes left; no call is active, and no other stream is open
abbrev pub state_reading : State → (left : List ℕ) → RecordPair → List Array → (List ℕ → Value) → ℕ → State
state_reading base left c arrays v k = record base {
  main = Some (record { bytes = left; ending = AtEnd });
  current = c;
  arrays = arrays;
  variables = v;
  frames = [];
  streams = [];
  next = 1;
  status = 0;
  input_seen = true;
  steps = k;
}

-- records are lines, there are no operands, and the lines of so many cells were read
pub record HasRead (v : List ℕ → Value) (cells : ℕ) : Type 0 where
  pub rs : str_of (v (codes "RS")) ≡ 10 ∷ []
  pub argc : v (codes "ARGC") ≡ value.Number (pos 1)
  pub nr : v (codes "NR") ≡ value.Number (pos (3 * cells))
  pub fnr : v (codes "FNR") ≡ value.Number (pos (3 * cells))

-- readings of the main input alone: nothing is printed, and no output opened
abbrev pub AreReadings : List Effect → Type 0
AreReadings [] = Unit {0}
AreReadings (Requested (OpensMain kind name) ∷ effects) = AreReadings effects
AreReadings (Requested (RecordOfMain separator left) ∷ effects) = AreReadings effects
AreReadings (x ∷ effects) = ⊥

-- the variables that change with each cell
abbrev pub is_counted : List ℕ → Bool
is_counted z = has_name (merge_what ∷ merge_key ∷ codes "NR" ∷ codes "FNR" ∷ []) z

-- what a run does is this, and then what is left of it, where the sums are these, and other variables and arrays as they were
pub record ReadsOn (base : State) (action : Run (Unit {0})) (xs : List Sum) (tables : Tables) (more : List ℕ) (old : List Array) (v : List ℕ → Value) (count turns k : ℕ) (out : Out (Unit {0})) : Type 0 where
  pub current : RecordPair
  pub arrays : List Array
  pub values : List ℕ → Value
  pub effects : List Effect
  pub readings : AreReadings effects
  pub read : HasRead values count
  pub holds : HoldsAll (state_reading base more current arrays values k) xs tables
  pub keeps : (z : List ℕ) → is_variable_sum xs z ≡ false → is_counted z ≡ false → values z ≡ v z
  pub elsewhere : (z : List ℕ) → is_array_sum xs z ≡ false → unwrap_or (slice_get arrays (number_in base.array_names z)) [] ≡ unwrap_or (slice_get old (number_in base.array_names z)) []
  pub is : out ≡ record {
    result = (each_record turns action (state_reading base more current arrays values k)).result;
    state = (each_record turns action (state_reading base more current arrays values k)).state;
    effects = effects ++ (each_record turns action (state_reading base more current arrays values k)).effects;
  }

-- the turns and the steps that so many cells take: three records, of which the first two spend three steps and the third two
abbrev pub turns_of : Cells → ℕ → ℕ
turns_of [] turns = turns
turns_of (x ∷ xs) turns = suc (suc (suc (turns_of xs turns)))

abbrev pub steps_of : Cells → ℕ → ℕ
steps_of [] k = k
steps_of (x ∷ xs) k = suc (suc (suc (suc (suc (suc (suc (suc (steps_of xs k))))))))

-- where the input begins with the text of cells, each of them is read and added in turn, and the run goes on behind them
abbrev pub LawOfStates : Type 0
LawOfStates = (functions : Functions) (m : ℕ) (xs : List Sum) (base : State) (cells : Cells) (tables : Tables) → AreAdded xs tables cells → (more : List ℕ) (c : RecordPair) (arrays : List Array) (v : List ℕ → Value) (count turns k : ℕ) →
    3 * (count + length cells) < 2 ^ 127 → HasRead v count → HoldsAll (state_reading base (text_of_cells cells ++ more) c arrays v (steps_of cells k)) xs tables →
    ReadsOn base (until_next (try_items functions m (reading_rules xs))) xs (behind_cells tables cells) more arrays v (count + length cells) turns k
    (each_record (turns_of cells turns) (until_next (try_items functions m (reading_rules xs))) (state_reading base (text_of_cells cells ++ more) c arrays v (steps_of cells k)))
