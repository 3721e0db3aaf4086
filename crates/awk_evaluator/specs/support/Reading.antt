-- What is done with operands that are read where they stand, in any way.
use Rattle.std.specs.Prelude.{◌≡◌, ℕ, Bool, Option, List, ◌++◌, map, length, reverse, drop, Result, Ok, Err, OnOk}
use Rattle.awk_lex.specs.declared.token.AssignmentOperator.{AssignmentOperator}
use Rattle.awk_lex.specs.declared.token.IncrementOperator.{IncrementOperator}
use Rattle.awk_value.specs.declared.value.Value.{Value}
use Rattle.awk_value.specs.declared.value.Value.TheVariants as value
use Rattle.std.specs.List.{concat}
use Rattle.awk_value.specs.Values.{str_of, truth_of}
use Rattle.awk_semantics.specs.declared.halt.Halt.{Halt}
use Rattle.awk_semantics.specs.State.{Run, ◌>>=◌, ret}
use Rattle.awk_semantics.specs.Operators.{operator_of}
use Rattle.awk_storage.specs.declared.position.Array.{Array}
use Rattle.awk_storage.specs.declared.position.Variable.{Variable}
use Rattle.awk_storage.specs.declared.position.Place.TheVariants as place
use Rattle.awk_storage.specs.Positions.{assign_by_at}
use Rattle.awk_resolve.specs.declared.node.Key.{Key}
use Rattle.awk_resolve.specs.declared.node.Operand.{Operand}
use Rattle.awk_resolve.specs.declared.node.Target.{Target}
use Rattle.awk_resolve.specs.declared.node.Tested.{Tested}
use Rattle.awk_resolve.specs.declared.node.ValueNode.{ValueNode}
use Rattle.awk_resolve.specs.Nodes.{Tables, operand_value, key_value, assign_variable, assign_target, raise_target, update, increment, taken, append_to, operand_values, print_operands, print_by_step, asked, asked_operands}
use Rattle.awk_streams.specs.WorldState.{WorldState}
use Rattle.awk_runtime.specs.Simulation.{Simulates, Changes}
use Rattle.awk_evaluator.specs.declared.machine.Machine.{Machine}
use Rattle.awk_evaluator.specs.declared.machine.Move.{Move}
use Rattle.awk_evaluator.specs.support.Rest.{tables_in}
use Rattle.awk_evaluator.specs.support.Moves.{Computes, told, toward}

-- what takes no value off the stack, and puts none on it
pub record Runs (run : Run Value) (m : Machine) (r : Result Value Halt) (m' : Machine) : Type 0 where
  pub operands : m'.operands ≡ m.operands
  pub calls : m'.runtime.frames.callers ≡ m.runtime.frames.callers
  pub changes : Changes run m.runtime m'.runtime r

-- what takes no value off the stack, and leaves none on it unless it ends
pub record Leaves (run : Run Value) (m : Machine) (r : Result Value Halt) (m' : Machine) : Type 0 where
  pub operands : OnOk r (m'.operands ≡ m.operands)
  pub calls : OnOk r (m'.runtime.frames.callers ≡ m.runtime.frames.callers)
  pub changes : Changes run m.runtime m'.runtime r

abbrev pub ReadsOperand : Operand → Machine → Result Value Halt → Machine → Type 0
ReadsOperand a m r m' = Runs (operand_value m.runtime.names.scalars a) m r m'

-- the texts of operands, one behind the other, and a key
abbrev pub ReadsJoined : List Operand → Machine → Result Value Halt → Machine → Type 0
ReadsJoined list m r m' = Leaves (operand_values m.runtime.names.scalars list >>= λ ws. ret (value.Text (concat (map str_of ws)))) m r m'

abbrev pub ReadsKey : Key → Machine → Result Value Halt → Machine → Type 0
ReadsKey k m r m' = Leaves (key_value m.runtime.names.scalars k) m r m'

-- whether the value of a node is true; what it takes is taken off the stack

abbrev pub ComparesBy : ValueNode → Machine → Result Bool Halt → Machine → Type 0
ComparesBy x m (Ok holds) m' = (w : Value) × (truth_of w ≡ holds) × Computes x m (Ok w) m'
ComparesBy x m (Err h) m' = Computes x m (Err h) m'

pub record Compares (x : ValueNode) (m : Machine) (r : Result Bool Halt) (m' : Machine) : Type 0 where
  pub compares : ComparesBy x m r m'

-- the move to the place that such a test leads to
pub record Decides (x : ValueNode) (here other : ℕ) (m : Machine) (to : Move) (m' : Machine) : Type 0 where
  pub holds : Option Bool
  pub leads : to ≡ toward holds here other
  pub compares : Compares x m (told holds m') m'

-- whether what a test asks holds; what it takes is taken off the stack
pub record Asks (x : Tested) (m : Machine) (r : Result Bool Halt) (m' : Machine) : Type 0 where
  pub operands : OnOk r (m'.operands ≡ record m.operands { values = drop (asked_operands x) m.operands.values })
  pub calls : OnOk r (m'.runtime.frames.callers ≡ m.runtime.frames.callers)
  pub changes : (tables : Tables) → Changes (asked (tables_in m.runtime.names tables) x m.operands.values) m.runtime m'.runtime r

-- a step is spent, and a target gets an operand, or its number and 1, or less 1

abbrev pub Updates : AssignmentOperator → Target → Operand → Machine → Result Value Halt → Machine → Type 0
Updates o t a m r m' = Leaves (update m.runtime.names.scalars o t a) m r m'

abbrev pub Increments : IncrementOperator → Target → Machine → Result Value Halt → Machine → Type 0
Increments o t m r m' = Leaves (increment m.runtime.names.scalars o t) m r m'

-- an operand is assigned to a target, to the element at a value or to a variable, or the target's number raised or lowered by 1

abbrev pub AssignsTarget : AssignmentOperator → Target → Operand → Machine → Result Value Halt → Machine → Type 0
AssignsTarget o t a m r m' = Leaves (assign_target m.runtime.names.scalars o t a) m r m'

abbrev pub AssignsElement : AssignmentOperator → Array → (key : Value) → Operand → Machine → Result Value Halt → Machine → Type 0
AssignsElement o array key a m r m' = Leaves (operand_value m.runtime.names.scalars a >>= λ w. assign_by_at m.runtime.names.scalars (operator_of o) (place.Element array) key w) m r m'

abbrev pub AssignsOperand : AssignmentOperator → Variable → Operand → Machine → Result Value Halt → Machine → Type 0
AssignsOperand o x a m r m' = Runs (operand_value m.runtime.names.scalars a >>= λ w. assign_variable m.runtime.names.scalars o x w) m r m'

-- the element at a value gets another one
abbrev pub PutsAt : AssignmentOperator → Array → (key w : Value) → Machine → Result Value Halt → Machine → Type 0
PutsAt o array key w m r m' = Leaves (assign_by_at m.runtime.names.scalars (operator_of o) (place.Element array) key w) m r m'

abbrev pub Raises : IncrementOperator → Target → Machine → Result Value Halt → Machine → Type 0
Raises o t m r m' = Leaves (raise_target m.runtime.names.scalars o t) m r m'

-- a variable gets its text with those of so many values behind it, which are taken off the stack
pub record Appends (x : Variable) (count : ℕ) (m : Machine) (r : Result Value Halt) (m' : Machine) : Type 0 where
  pub operands : OnOk r (m'.operands ≡ record m.operands { values = drop count m.operands.values })
  pub calls : OnOk r (m'.runtime.frames.callers ≡ m.runtime.frames.callers)
  pub changes : Changes (append_to m.runtime.names.scalars x (taken count m.operands.values)) m.runtime m'.runtime r

-- operands are read in their order, and their values are put on the stack; behind an `Err` some may lie there

pub record PutsValues (list : List Operand) (ws : List Value) (m m' : Machine) : Type 0 where
  pub count : length ws ≡ length list
  pub operands : m'.operands ≡ record m.operands { values = reverse ws ++ m.operands.values }
  pub calls : m'.runtime.frames.callers ≡ m.runtime.frames.callers
  pub changes : Changes (operand_values m.runtime.names.scalars list) m.runtime m'.runtime (Ok ws)

abbrev pub PutsOperandsBy : List Operand → Machine → Result (Unit {0}) Halt → Machine → Type 0
PutsOperandsBy list m (Ok u) m' = (ws : List Value) × PutsValues list ws m m'
PutsOperandsBy list m (Err h) m' = Changes (operand_values m.runtime.names.scalars list) m.runtime m'.runtime (Err h)

pub record PutsOperands (list : List Operand) (m : Machine) (r : Result (Unit {0}) Halt) (m' : Machine) : Type 0 where
  pub puts : PutsOperandsBy list m r m'

-- operands are printed as a line
pub record PrintsOperands (is_logged : Type 0) (list : List Operand) (m : Machine) (k : WorldState) (r : Result (Unit {0}) Halt) (m' : Machine) (k' : WorldState) : Type 0 where
  pub operands : OnOk r (m'.operands ≡ m.operands)
  pub calls : OnOk r (m'.runtime.frames.callers ≡ m.runtime.frames.callers)
  pub simulates : Simulates is_logged m.runtime k m'.runtime k' r (print_operands m.runtime.names.scalars list)

-- the same, where a step is spent before
pub record SpendsAndPrints (is_logged : Type 0) (list : List Operand) (m : Machine) (k : WorldState) (r : Result (Unit {0}) Halt) (m' : Machine) (k' : WorldState) : Type 0 where
  pub operands : OnOk r (m'.operands ≡ m.operands)
  pub calls : OnOk r (m'.runtime.frames.callers ≡ m.runtime.frames.callers)
  pub simulates : Simulates is_logged m.runtime k m'.runtime k' r (print_by_step m.runtime.names.scalars list)
