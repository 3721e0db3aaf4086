-- Variables, arrays and places by their positions, as a program's nodes name them (POSIX awk, Variables and Special
-- Variables; User-Defined Functions): no name is compared while a program runs.
use Rattle.std.specs.Prelude.{ℕ, List, [], ◌∷◌, slice_get, slice_set, Option, Some, None, codes}
use Rattle.awk_value.specs.declared.value.Value.{Value}
use Rattle.awk_value.specs.declared.value.Value.TheVariants as value
use Rattle.awk_value.specs.Values.{str_of}
use Rattle.awk_lex.specs.declared.token.IncrementOperator.{IncrementOperator}
use Rattle.awk_lex.specs.declared.token.Operator.{Operator}
use Rattle.awk_kinds.specs.Variables.{name_of}
use Rattle.awk_semantics.specs.declared.local.Local.{Local}
use Rattle.awk_semantics.specs.declared.local.Local.TheVariants as local
use Rattle.awk_semantics.specs.definitions.State.{Frame, State, Run, ◌>>=◌, lift, ret, gives}
use Rattle.awk_semantics.specs.definitions.Operators.{applied, by_one, one}
use Rattle.awk_semantics.specs.definitions.Primitives.{number_of, read_field, set_field, put_outside, read_element_at, store_element_at}
use Rattle.awk_semantics.specs.support.Outside.{read_outside}
use Rattle.awk_storage.specs.declared.position.Variable.{Variable}
use Rattle.awk_storage.specs.declared.position.Variable.TheVariants as variable
use Rattle.awk_storage.specs.declared.position.Array.{Array}
use Rattle.awk_storage.specs.declared.position.Array.TheVariants as array
use Rattle.awk_storage.specs.declared.position.Place.{Place}
use Rattle.awk_storage.specs.declared.position.Place.TheVariants as place

-- parameters

-- the parameters of the newest call, with their names
abbrev pub newest_locals : List Frame → List (List ℕ × Local)
newest_locals [] = []
newest_locals (frame ∷ frames) = frame.locals

-- the value of a parameter; an array has none, and what isn't there has none
abbrev pub value_of_local : Option (List ℕ × Local) → Value
value_of_local (Some (x, local.Value v)) = v
value_of_local (Some (x, local.Array n)) = value.Nothing
value_of_local None = value.Nothing

unfoldable pub read_local : ℕ → Run Value
read_local i s = gives (value_of_local (slice_get (newest_locals s.frames) i)) s

abbrev pub with_newest : List (List ℕ × Local) → List Frame → List Frame
with_newest locals [] = []
with_newest locals (frame ∷ frames) = record frame { locals = locals } ∷ frames

-- a parameter that is no array gets a value
abbrev pub with_local_at : Option (List ℕ × Local) → ℕ → Value → State → State
with_local_at (Some (x, local.Value old)) i v s = record s { frames = with_newest (slice_set (newest_locals s.frames) i (x, local.Value v)) s.frames }
with_local_at (Some (x, local.Array n)) i v s = s
with_local_at None i v s = s

unfoldable pub put_local : ℕ → Value → Run (Unit {0})
put_local i v s = gives tt (with_local_at (slice_get (newest_locals s.frames) i) i v s)

-- variables; `names` are those of the program's variables by their slots

-- a slot without a name holds nothing
abbrev pub read_slot : Option (List ℕ) → Run Value
read_slot None = ret value.Nothing
read_slot (Some x) = read_outside x

abbrev pub put_slot : Option (List ℕ) → Value → Run (Unit {0})
put_slot None v = ret tt
put_slot (Some x) v = put_outside x v

-- arrays

-- the number of a parameter's array
abbrev pub number_of_local : Option (List ℕ × Local) → ℕ
number_of_local (Some (x, local.Array n)) = n
number_of_local (Some (x, local.Value v)) = 0
number_of_local None = 0

abbrev pub number_at : Array → State → ℕ
number_at (array.Global n) s = n
number_at (array.Local i) s = number_of_local (slice_get (newest_locals s.frames) i)

unfoldable pub read_element_of : Array → (key : List ℕ) → Run Value
read_element_of a key s = read_element_at (number_at a s) key s

unfoldable pub store_element_of : Array → (key : List ℕ) → Value → Run (Unit {0})
store_element_of a key v s = store_element_at (number_at a s) key v s

module _ (names : List (List ℕ)) where
  abbrev pub read_variable : Variable → Run Value
  read_variable (variable.Special x) = read_outside (name_of x)
  read_variable variable.FieldCount = read_outside (codes "NF")
  read_variable (variable.Global i) = read_slot (slice_get names i)
  read_variable (variable.Local i) = read_local i

  abbrev pub put_variable : Variable → Value → Run (Unit {0})
  put_variable (variable.Special x) v = put_outside (name_of x) v
  put_variable variable.FieldCount v = put_outside (codes "NF") v
  put_variable (variable.Global i) v = put_slot (slice_get names i) v
  put_variable (variable.Local i) v = put_local i v

  -- places: `operand` is the subscript, or the number of the field, that was evaluated before; a variable has none

  abbrev pub read_at : Place → (operand : Value) → Run Value
  read_at (place.Variable x) operand = read_variable x
  read_at (place.Element a) operand = read_element_of a (str_of operand)
  read_at place.Field operand = number_of operand >>= λ n. read_field n

  abbrev pub store_at : Place → (operand : Value) → Value → Run (Unit {0})
  store_at (place.Variable x) operand v = put_variable x v
  store_at (place.Element a) operand v = store_element_of a (str_of operand) v
  store_at place.Field operand v = number_of operand >>= λ n. set_field n v

  -- a place gets a value, and gives what it then holds
  unfoldable pub assign_at : Place → (operand : Value) → Value → Run Value
  assign_at p operand v = store_at p operand v >>= λ _. read_at p operand

  -- the same, of what an operator, if there is one, makes of the old value and of this one
  unfoldable pub assign_by_at : Option Operator → Place → (operand : Value) → Value → Run Value
  assign_by_at None p operand v = assign_at p operand v
  assign_by_at (Some o) p operand v = read_at p operand >>= λ old. lift (applied o old v) >>= λ w. assign_at p operand w

  -- a place gets its number and 1, or less 1; it gives the number that it had
  unfoldable pub post_increment_at : IncrementOperator → Place → (operand : Value) → Run Value
  post_increment_at o p operand = read_at p operand >>= λ v. number_of v >>= λ n. lift (applied (by_one o) (value.Number n) one) >>= λ w. store_at p operand w >>= λ _. ret (value.Number n)
