-- What is done with what is at hand: no world is reached, and there is no fault.
use Rattle.std.specs.Prelude.{◌≡◌, ℕ, ℤ, Bool, List, ◌∷◌, drop, Ok}
use Rattle.awk_lex.specs.declared.token.AssignmentOperator.{AssignmentOperator}
use Rattle.awk_grammar.specs.declared.tree.BinaryOperator.{BinaryOperator}
use Rattle.awk_value.specs.declared.value.Value.{Value}
use Rattle.awk_value.specs.declared.value.Value.TheVariants as value
use Rattle.awk_semantics.specs.Operators.{operator_of, truth_value}
use Rattle.awk_semantics.specs.Semantics.{Functions}
use Rattle.awk_semantics.specs.State.{State, Run, ◌>>=◌}
use Rattle.awk_semantics.specs.Primitives.{read_field}
use Rattle.awk_storage.specs.declared.position.Place.{Place}
use Rattle.awk_storage.specs.Positions.{assign_by_at}
use Rattle.awk_resolve.specs.declared.node.Key.{Key}
use Rattle.awk_resolve.specs.declared.node.Operand.{Operand}
use Rattle.awk_resolve.specs.declared.node.ValueNode.{ValueNode}
use Rattle.awk_resolve.specs.Nodes.{Tables, first, popped, value_of, operand_value, key_value, operated_with, operated_on}
use Rattle.awk_runtime.specs.Simulation.{Changes}
use Rattle.awk_evaluator.specs.declared.machine.Machine.{Machine}
use Rattle.awk_evaluator.specs.support.Rest.{tables_in}

-- an operand is this value, which is at hand
pub record IsAtHand (a : Operand) (v : Value) (m : Machine) : Type 0 where
  pub changes : Changes (operand_value m.runtime.names.scalars a) m.runtime m.runtime (Ok v)

-- so is the key of an element
pub record IsKeyAtHand (k : Key) (v : Value) (m : Machine) : Type 0 where
  pub changes : Changes (key_value m.runtime.names.scalars k) m.runtime m.runtime (Ok v)

-- an operand is the field of this number, which is at hand: it is read behind a run that changes nothing
pub record IsFieldOf (a : Operand) (n : ℤ) (m : Machine) : Type 0 where
  pub number : Run ℤ
  pub changes : Changes number m.runtime m.runtime (Ok n)
  pub is : (s : State) → operand_value m.runtime.names.scalars a s ≡ (number >>= λ k. read_field k) s

-- the value of a node is put on the stack, in the place of what it takes
pub record Puts (x : ValueNode) (m m' : Machine) : Type 0 where
  pub value : Value
  pub operands : m'.operands ≡ record m.operands { values = value ∷ drop (popped x) m.operands.values }
  pub calls : m'.runtime.frames.callers ≡ m.runtime.frames.callers
  pub changes : (tables : Tables) (functions : Functions) → Changes (value_of (tables_in m.runtime.names tables) functions x m.operands.values) m.runtime m'.runtime (Ok value)

-- a value is put on the stack
pub record Pushed (v : Value) (m m' : Machine) : Type 0 where
  pub operands : m'.operands ≡ record m.operands { values = v ∷ m.operands.values }
  pub calls : m'.runtime.frames.callers ≡ m.runtime.frames.callers
  pub runtime : m'.runtime ≡ m.runtime

-- the topmost value is taken off
pub record Popped (m m' : Machine) : Type 0 where
  pub operands : m'.operands ≡ record m.operands { values = drop 1 m.operands.values }
  pub calls : m'.runtime.frames.callers ≡ m.runtime.frames.callers
  pub runtime : m'.runtime ≡ m.runtime

-- whether two operands are so related
pub record Relates (o : BinaryOperator) (a b : Operand) (holds : Bool) (m : Machine) : Type 0 where
  pub changes : Changes (operated_on m.runtime.names.scalars o a b) m.runtime m.runtime (Ok (truth_value holds))

-- whether the topmost value and an operand are so related
pub record RelatesWith (o : BinaryOperator) (b : Operand) (holds : Bool) (m : Machine) : Type 0 where
  pub changes : Changes (operated_with m.runtime.names.scalars o (first m.operands.values) b) m.runtime m.runtime (Ok (truth_value holds))

-- a value may be assigned in the place of another one
abbrev pub AssignsAlike : AssignmentOperator → (v w : Value) → Type 0
AssignsAlike o v w = (names : List (List ℕ)) (p : Place) (operand : Value) → assign_by_at names (operator_of o) p operand v ≡ assign_by_at names (operator_of o) p operand w

-- a number may be assigned in the place of an operand that is at hand
pub record IsAsGood (o : AssignmentOperator) (a : Operand) (n : ℤ) (m : Machine) : Type 0 where
  pub found : Value
  pub at_hand : IsAtHand a found m
  pub alike : AssignsAlike o found (value.Number n)
