-- What an addition of a rule does to a sum: an update, which is the same whatever was summed up before.
use Rattle.std.specs.Prelude.{◌≡◌, ℕ, ℤ, ◌+ℤ◌, pos, suc, true, false, List, [], slice_set, Ok}
use Rattle.awk_value.specs.declared.value.Value.{Value}
use Rattle.awk_value.specs.declared.value.Value.TheVariants as value
use Rattle.awk_value.specs.Arithmetic.{is_in_range}
use Rattle.awk_value.specs.Arrays.{Array}
use Rattle.awk_value.specs.Values.{num_of}
use Rattle.awk_record.specs.Record.{RecordPair}
use Rattle.awk_kinds.specs.Variables.{with_value}
use Rattle.awk_lex.specs.declared.token.AssignmentOperator.TheVariants as assignment
use Rattle.awk_lex.specs.declared.token.IncrementOperator.TheVariants as increment
use Rattle.awk_grammar.specs.Tree.{Expr, Name, Element, PreIncrement, PostIncrement, Assign, Exprs, Expression, Simple}
use Rattle.awk_semantics.specs.declared.flow.Flow.TheVariants as flow
use Rattle.awk_semantics.specs.definitions.State.{State, gives}
use Rattle.awk_semantics.specs.definitions.Primitives.{number_in}
use Rattle.awk_semantics.specs.definitions.Semantics.{Functions, eval, key_of, exec}
use Rattle.awk_merging.specs.definitions.Gathering.{Table, updated, sums}
use Rattle.awk_merging.specs.definitions.Sums.{ByKey, Alone, is_taken, Holds, numbers}
use Rattle.awk_merging.specs.definitions.LawOfReading.{state_on, number_at}

module _ (functions : Functions) (base : State) (arrays : List Array) (v : List ℕ → Value) (k : ℕ) where
  -- the subscripts give this key, and the expression this number, and they change no more than the record
  pub record IsAt (c c' : RecordPair) (es : Exprs) (key : List ℕ) : Type 0 where
    pub is : key_of functions [] es (state_on base c arrays v k) ≡ gives key (state_on base c' arrays v k)

  pub record Gives (c c' : RecordPair) (e : Expr) (n : ℤ) : Type 0 where
    pub value : Value
    pub is : eval functions e (state_on base c arrays v k) ≡ gives value (state_on base c' arrays v k)
    pub number : num_of value ≡ Ok n

  -- the statement spends a step, adds the number to the array at the key, and leaves this record
  abbrev pub AddsByKey : (statement : Expr) (c c' : RecordPair) (a : List ℕ) → Table ℤ → List ℕ → ℤ → Type 0
  AddsByKey statement c c' a table key n =
      exec functions (Simple (Expression statement)) (state_on base c arrays v (suc k))
      ≡ gives flow.Normal (state_on base c' (slice_set arrays (number_in base.array_names a) (numbers (updated sums table key n))) v k)

  -- the same of a variable
  abbrev pub AddsAlone : (statement : Expr) (c c' : RecordPair) (x : List ℕ) → Table ℤ → ℤ → Type 0
  AddsAlone statement c c' x table n =
      exec functions (Simple (Expression statement)) (state_on base c arrays v (suc k)) ≡ gives flow.Normal (state_on base c' arrays (with_value v x (value.Number (number_at table [] +ℤ n))) k)

-- where a state holds a sum and it stays in range, an addition to it is an update of its table
pub record LawOfAdditions (functions : Functions) (base : State) (arrays : List Array) (v : List ℕ → Value) (k : ℕ) : Type 0 where
  -- a[K] += e
  pub by_key : (c c' c'' : RecordPair) (a : List ℕ) (es : Exprs) (e : Expr) (key : List ℕ) (n : ℤ) (table : Table ℤ) → IsAt functions base arrays v k c c' es key → Gives functions base arrays v k c' c'' e n →
      Holds (state_on base c'' arrays v k) (ByKey a) table → is_in_range (number_at table key +ℤ n) ≡ true → AddsByKey functions base arrays v k (Assign assignment.Add (Element a es) e) c c'' a table key n
  -- ++a[K]
  pub by_key_first : (c c' : RecordPair) (a : List ℕ) (es : Exprs) (key : List ℕ) (table : Table ℤ) → IsAt functions base arrays v k c c' es key →
      Holds (state_on base c' arrays v k) (ByKey a) table → is_in_range (number_at table key +ℤ pos 1) ≡ true → AddsByKey functions base arrays v k (PreIncrement increment.Increment (Element a es)) c c' a table key (pos 1)
  -- a[K]++
  pub by_key_behind : (c c' : RecordPair) (a : List ℕ) (es : Exprs) (key : List ℕ) (table : Table ℤ) → IsAt functions base arrays v k c c' es key →
      Holds (state_on base c' arrays v k) (ByKey a) table → is_in_range (number_at table key +ℤ pos 1) ≡ true → AddsByKey functions base arrays v k (PostIncrement increment.Increment (Element a es)) c c' a table key (pos 1)
  -- x += e
  pub alone : (c c' : RecordPair) (x : List ℕ) (e : Expr) (n : ℤ) (table : Table ℤ) → is_taken x ≡ false → Gives functions base arrays v k c c' e n →
      Holds (state_on base c' arrays v k) (Alone x) table → is_in_range (number_at table [] +ℤ n) ≡ true → AddsAlone functions base arrays v k (Assign assignment.Add (Name x) e) c c' x table n
  -- ++x
  pub alone_first : (c : RecordPair) (x : List ℕ) (table : Table ℤ) → is_taken x ≡ false →
      Holds (state_on base c arrays v k) (Alone x) table → is_in_range (number_at table [] +ℤ pos 1) ≡ true → AddsAlone functions base arrays v k (PreIncrement increment.Increment (Name x)) c c x table (pos 1)
  -- x++
  pub alone_behind : (c : RecordPair) (x : List ℕ) (table : Table ℤ) → is_taken x ≡ false →
      Holds (state_on base c arrays v k) (Alone x) table → is_in_range (number_at table [] +ℤ pos 1) ≡ true → AddsAlone functions base arrays v k (PostIncrement increment.Increment (Name x)) c c x table (pos 1)
