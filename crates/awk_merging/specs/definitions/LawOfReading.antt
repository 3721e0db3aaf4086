-- What the rules that read cells do on each line of a cell.
use Rattle.std.specs.Prelude.{◌≡◌, ◌⊎◌, ℕ, ℤ, ◌+ℤ◌, pos, suc, true, false, List, [], ◌∷◌, codes, bytes_eq, if◌then◌else◌, Ok}
use Rattle.std.specs.Fmt.{signed_decimal}
use Rattle.awk_value.specs.declared.value.Value.{Value}
use Rattle.awk_value.specs.declared.value.Value.TheVariants as value
use Rattle.awk_value.specs.Arithmetic.{is_in_range}
use Rattle.awk_value.specs.Arrays.{Array}
use Rattle.awk_record.specs.Record.{RecordPair}
use Rattle.awk_kinds.specs.Variables.{with_value}
use Rattle.awk_lex.specs.declared.token.Operator.TheVariants as operator
use Rattle.awk_semantics.specs.declared.halt.Halt.TheVariants as halt
use Rattle.awk_semantics.specs.definitions.State.{State, Out, gives, ends}
use Rattle.awk_semantics.specs.definitions.Operators.{applied}
use Rattle.awk_semantics.specs.definitions.Primitives.{number_in, array_in}
use Rattle.awk_semantics.specs.definitions.Semantics.{Functions}
use Rattle.awk_semantics.specs.definitions.Items.{try_items}
use Rattle.awk_merging.specs.definitions.Gathering.{Table, updated, sums}
use Rattle.awk_merging.specs.definitions.Sums.{Sum, ByKey, Alone, name_of_sum, merge_what, merge_key, reading_rules, is_taken, Holds}

-- the state outside of calls, with this record at hand, these arrays and variables, and so many steps
abbrev pub state_on : State → RecordPair → List Array → (List ℕ → Value) → ℕ → State
state_on base c arrays v k = record base { current = c; arrays = arrays; variables = v; frames = []; steps = k }

-- the record is this line of a cell
abbrev pub IsLineOf : (List ℕ → Value) → (line : ℕ) → Type 0
IsLineOf v line = applied operator.Remainder (v (codes "NR")) (value.Number (pos 3)) ≡ Ok (value.Number (pos line))

-- no sum among these has the name
abbrev pub IsUnnamed : List ℕ → List Sum → Type 0
IsUnnamed name [] = Unit {0}
IsUnnamed name (x ∷ xs) = (bytes_eq name (name_of_sum x) ≡ false) × IsUnnamed name xs

-- the sum is among these, and no other one has its name
abbrev pub IsAmong : Sum → List Sum → Type 0
IsAmong x [] = ⊥
IsAmong x (y ∷ ys) = ((x ≡ y) × IsUnnamed (name_of_sum x) ys) ⊎ ((bytes_eq (name_of_sum x) (name_of_sum y) ≡ false) × IsAmong x ys)

-- the key that a sum is added at: a variable has but one
abbrev pub key_for : Sum → List ℕ → List ℕ
key_for (ByKey a) key = key
key_for (Alone x) key = []

-- the number at the key, or 0 where there is none
abbrev pub number_at : Table ℤ → List ℕ → ℤ
number_at [] key = pos 0
number_at (x ∷ xs) key = if bytes_eq key x.0 then x.1 else number_at xs key

-- the record is the third line of a cell of this sum, at this key and with this number, and the sum stays in range
pub record IsAdded (c : RecordPair) (v : List ℕ → Value) (x : Sum) (table : Table ℤ) (key : List ℕ) (n : ℤ) : Type 0 where
  pub line : IsLineOf v 0
  pub what : v merge_what ≡ value.Input (name_of_sum x)
  pub key_is : v merge_key ≡ value.Input key
  pub text : c.text ≡ signed_decimal n
  pub fits : is_in_range n ≡ true
  pub sum_fits : is_in_range (number_at table (key_for x key) +ℤ n) ≡ true

-- the sum is in no array of this name
abbrev pub IsElsewhere : Sum → List ℕ → Type 0
IsElsewhere (ByKey a) z = bytes_eq a z ≡ false
IsElsewhere (Alone x) z = Unit {0}

-- the sum is in no variable of this name
abbrev pub IsAside : Sum → List ℕ → Type 0
IsAside (ByKey a) z = Unit {0}
IsAside (Alone x) z = bytes_eq x z ≡ false

-- the number is added to the sum at the key, a step is spent, and nothing else has changed: other variables and sums are as
-- they were
pub record Adds (base : State) (c : RecordPair) (arrays : List Array) (v : List ℕ → Value) (k : ℕ) (x : Sum) (table : Table ℤ) (key : List ℕ) (n : ℤ) (out : Out (Unit {0})) : Type 0 where
  pub arrays_then : List Array
  pub values : List ℕ → Value
  pub is : out ≡ gives tt (state_on base c arrays_then values k)
  pub adds : Holds (state_on base c arrays_then values k) x (updated sums table (key_for x key) n)
  pub keeps : (z : List ℕ) → IsAside x z → values z ≡ v z
  pub others : (y : Sum) (other : Table ℤ) → bytes_eq (name_of_sum x) (name_of_sum y) ≡ false → Holds (state_on base c arrays v k) y other → Holds (state_on base c arrays_then values k) y other
  pub elsewhere : (z : List ℕ) → IsElsewhere x z → array_in (state_on base c arrays_then values k) (number_in base.array_names z) ≡ array_in (state_on base c arrays v k) (number_in base.array_names z)

-- on the first two lines of a cell the rules keep the line and go on with the next one; on the third they add the number
pub record LawOfReading : Type 0 where
  pub first : (functions : Functions) (m : ℕ) (xs : List Sum) (base : State) (c : RecordPair) (arrays : List Array) (v : List ℕ → Value) (k : ℕ) → IsLineOf v 1 →
      try_items functions m (reading_rules xs) (state_on base c arrays v (suc (suc k))) ≡ ends halt.Next (state_on base c arrays (with_value v merge_what (value.Input c.text)) k)
  pub second : (functions : Functions) (m : ℕ) (xs : List Sum) (base : State) (c : RecordPair) (arrays : List Array) (v : List ℕ → Value) (k : ℕ) → IsLineOf v 2 →
      try_items functions m (reading_rules xs) (state_on base c arrays v (suc (suc k))) ≡ ends halt.Next (state_on base c arrays (with_value v merge_key (value.Input c.text)) k)
  pub third : (functions : Functions) (m : ℕ) (xs : List Sum) (base : State) (c : RecordPair) (arrays : List Array) (v : List ℕ → Value) (k : ℕ) (x : Sum) (table : Table ℤ) (key : List ℕ) (n : ℤ) →
      IsAmong x xs → is_taken (name_of_sum x) ≡ false → Holds (state_on base c arrays v k) x table → IsAdded c v x table key n →
      Adds base c arrays v k x table key n (try_items functions m (reading_rules xs) (state_on base c arrays v (suc k)))
