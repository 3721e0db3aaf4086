-- What built-in functions of values make of operands that are read where they stand.
use Rattle.std.specs.Prelude.{◌≡◌, ℕ, ℤ, List, [], ◌∷◌, ◌++◌, drop, Option, Some, None, Result, Ok, Err}
use Rattle.std.specs.Global.{Vec}
use Rattle.awk_value.specs.declared.value.Value.{Value}
use Rattle.awk_value.specs.declared.value.Value.TheVariants as value
use Rattle.awk_value.specs.Values.{num_of, str_of}
use Rattle.awk_lex.specs.declared.token.BuiltIn.{BuiltIn}
use Rattle.awk_lex.specs.declared.token.Operator.{Operator}
use Rattle.awk_semantics.specs.declared.halt.Halt.{Halt}
use Rattle.awk_semantics.specs.Operators.{applied}
use Rattle.awk_semantics.specs.BuiltIns.{applied_all}
use Rattle.awk_resolve.specs.declared.node.Operand.{Operand}
use Rattle.awk_resolve.specs.Nodes.{operand_values, taken}
use Rattle.awk_runtime.specs.Simulation.{Changes, SameState}
use Rattle.awk_evaluator.specs.declared.function_values.Positions.{Positions}
use Rattle.awk_evaluator.specs.declared.machine.Machine.{Machine}
use Rattle.awk_evaluator.specs.support.Quick.{IsAtHand}

-- operands are these values, which are at hand
pub record AreAtHand (list : List Operand) (ws : List Value) (m : Machine) : Type 0 where
  pub changes : Changes (operand_values m.runtime.names.scalars list) m.runtime m.runtime (Ok ws)

-- an operand is at hand, and this holds of its text
pub record HasText (a : Operand) (holds : List ℕ → Type 0) (m : Machine) : Type 0 where
  pub value : Value
  pub at : IsAtHand a value m
  pub text : holds (str_of value)

-- an operand is at hand, and this is its number
pub record HasNumber (a : Operand) (n : ℤ) (m : Machine) : Type 0 where
  pub value : Value
  pub at : IsAtHand a value m
  pub number : num_of value ≡ Ok n

-- nothing is changed that the definitions know
pub record StaysAlike (m m' : Machine) : Type 0 where
  pub operands : m'.operands ≡ m.operands
  pub calls : m'.runtime.frames.callers ≡ m.runtime.frames.callers
  pub runtime : SameState m.runtime m'.runtime

-- positions, as the values that tell them
abbrev pub count_values : Option ℤ → List Value
count_values None = []
count_values (Some n) = value.Number n ∷ []

abbrev pub position_values : Positions → List Value
position_values p = value.Number p.start ∷ count_values p.count

-- operands are read, and none is put on the stack
pub record ReadsAll (list : List Operand) (m : Machine) (r : Result (List Value) Halt) (m' : Machine) : Type 0 where
  pub operands : m'.operands ≡ m.operands
  pub calls : m'.runtime.frames.callers ≡ m.runtime.frames.callers
  pub changes : Changes (operand_values m.runtime.names.scalars list) m.runtime m'.runtime r

abbrev pub items_in : Result (Vec Value) Halt → Result (List Value) Halt
items_in (Ok v) = Ok v.items
items_in (Err h) = Err h

-- what a function makes of operands and of so many values behind them is put in the place of these
pub record PutsApplied (f : BuiltIn) (list : List Operand) (count : ℕ) (m m' : Machine) : Type 0 where
  pub value : Value
  pub operands : m'.operands ≡ record m.operands { values = value ∷ drop count m.operands.values }
  pub calls : m'.runtime.frames.callers ≡ m.runtime.frames.callers
  pub runtime : m'.runtime ≡ m.runtime
  pub arguments : List Value
  pub at : AreAtHand list arguments m
  pub is : applied_all f (arguments ++ taken count m.operands.values) ≡ Ok value
