-- What is printed of the sums of a program.
use Rattle.std.specs.Prelude.{◌≡◌, ℕ, ℤ, suc, true, false, List, [], ◌∷◌, ◌++◌, bytes_eq, Some, None, Ok}
use Rattle.awk_value.specs.declared.value.Value.{Value}
use Rattle.awk_value.specs.declared.value.Value.TheVariants as value
use Rattle.awk_value.specs.Arithmetic.{is_in_range}
use Rattle.awk_record.specs.definitions.Cut.{first_at}
use Rattle.awk_kinds.specs.Variables.{with_value}
use Rattle.awk_semantics.specs.declared.halt.Halt.TheVariants as halt
use Rattle.awk_semantics.specs.declared.flow.Flow.{Flow}
use Rattle.awk_semantics.specs.declared.flow.Flow.TheVariants as flow
use Rattle.awk_semantics.specs.definitions.State.{Effect, Printed, State, Out, ends}
use Rattle.awk_semantics.specs.definitions.Semantics.{Functions, exec, exec_all}
use Rattle.awk_merging.specs.definitions.Gathering.{Table, IsFree}
use Rattle.awk_merging.specs.definitions.Sums.{Sum, ByKey, Alone, name_of_sum, merge_key, refuse_newline, print_sums, is_taken, Holds, cell_text}

-- the text is one line: it has no newline
abbrev pub IsLine : List ℕ → Type 0
IsLine text = first_at (10 ∷ []) text ≡ None

-- each key of the table is a line, no two are equal, and the numbers are in range
abbrev pub IsOfLines : Table ℤ → Type 0
IsOfLines [] = Unit {0}
IsOfLines (x ∷ xs) = IsLine x.0 × (is_in_range x.1 ≡ true) × IsFree xs x.0 × IsOfLines xs

-- the state outside of calls, with these variables and so many steps
abbrev pub state_at : State → (List ℕ → Value) → ℕ → State
state_at base v k = record base { variables = v; frames = []; steps = k }

-- sums, each with its table
abbrev pub Held : Type 0
Held = List (Sum × Table ℤ)

abbrev pub sums_of : Held → List Sum
sums_of [] = []
sums_of (x ∷ xs) = x.0 ∷ sums_of xs

-- the state has them, and their keys are lines
abbrev pub AreHeld : State → Held → Type 0
AreHeld s [] = Unit {0}
AreHeld s (x ∷ xs) = (is_taken (name_of_sum x.0) ≡ false) × Holds s x.0 x.1 × IsOfLines x.1 × AreHeld s xs

-- their cells, as they are printed, and how many steps that takes
abbrev pub cells : (name : List ℕ) → Table ℤ → List Effect
cells name [] = []
cells name (x ∷ xs) = Printed 0 (cell_text name x.0 x.1) ∷ cells name xs

abbrev pub all_cells : Held → List Effect
all_cells [] = []
all_cells (x ∷ xs) = cells (name_of_sum x.0) x.1 ++ all_cells xs

abbrev pub steps_of_cells : Table ℤ → ℕ → ℕ
steps_of_cells [] k = k
steps_of_cells (x ∷ xs) k = suc (suc (suc (steps_of_cells xs k)))

abbrev pub steps_of_sum : Sum → Table ℤ → ℕ → ℕ
steps_of_sum (ByKey a) table k = suc (steps_of_cells table k)
steps_of_sum (Alone x) [] k = suc k
steps_of_sum (Alone x) (y ∷ ys) k = suc (suc k)

abbrev pub steps_of_sums : Held → ℕ → ℕ
steps_of_sums [] k = k
steps_of_sums (x ∷ xs) k = steps_of_sum x.0 x.1 (steps_of_sums xs k)

-- the run ends normally, changed no more than `merge_key`, spent all but so many steps, and showed this
pub record Shows (base : State) (v : List ℕ → Value) (k : ℕ) (shown : List Effect) (out : Out Flow) : Type 0 where
  pub values : List ℕ → Value
  pub keeps : (x : List ℕ) → bytes_eq merge_key x ≡ false → values x ≡ v x
  pub is : out ≡ record { result = Ok flow.Normal; state = state_at base values k; effects = shown }

-- the statements that print sums print their cells, in the order of the keys
abbrev pub LawOfCells : Type 0
LawOfCells = (functions : Functions) (base : State) (v : List ℕ → Value) (held : Held) (k : ℕ) → AreHeld (state_at base v k) held →
    Shows base v k (all_cells held) (exec_all functions (print_sums (sums_of held)) (state_at base v (steps_of_sums held k)))

-- where the key at hand has a newline, the statement before a cell's ends the run with status 1
abbrev pub LawOfNewlines : Type 0
LawOfNewlines = (functions : Functions) (base : State) (v : List ℕ → Value) (k i : ℕ) (key : List ℕ) → first_at (10 ∷ []) key ≡ Some i →
    exec functions refuse_newline (state_at base (with_value v merge_key (value.Text key)) (suc (suc k))) ≡ ends halt.Exit (record (state_at base (with_value v merge_key (value.Text key)) k) { status = 1 })
