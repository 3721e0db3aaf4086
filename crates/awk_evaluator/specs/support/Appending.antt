-- Operands that are appended to the text of a target, and those that are at hand as one text.
use Rattle.std.specs.Prelude.{◌≡◌, ℕ, List, ◌++◌, map, None, Result, Ok}
use Rattle.std.specs.List.{concat}
use Rattle.awk_value.specs.declared.value.Value.{Value}
use Rattle.awk_value.specs.declared.value.Value.TheVariants as value
use Rattle.awk_value.specs.Values.{str_of}
use Rattle.awk_semantics.specs.declared.halt.Halt.{Halt}
use Rattle.awk_storage.specs.declared.position.Array.{Array}
use Rattle.awk_storage.specs.declared.position.Place.{Place}
use Rattle.awk_storage.specs.declared.position.Place.TheVariants as place
use Rattle.awk_storage.specs.Positions.{assign_by_at}
use Rattle.awk_resolve.specs.declared.node.Key.{Key}
use Rattle.awk_resolve.specs.declared.node.Operand.{Operand}
use Rattle.awk_resolve.specs.declared.node.Target.{Target}
use Rattle.awk_resolve.specs.Nodes.{operand_values, append_operands_at, append_operands, append_by_step}
use Rattle.awk_runtime.specs.support.Appends.{AppendsAt as AppendsIn}
use Rattle.awk_runtime.specs.Simulation.{Changes}
use Rattle.awk_evaluator.specs.declared.machine.Machine.{Machine}
use Rattle.awk_evaluator.specs.support.Quick.{IsKeyAtHand}
use Rattle.awk_evaluator.specs.support.Reading.{Leaves}

-- a target gets its text with those of operands behind it, and where a step is spent before
abbrev pub AppendsOperands : Target → List Operand → Machine → Result Value Halt → Machine → Type 0
AppendsOperands t list m r m' = Leaves (append_operands m.runtime.names.scalars t list) m r m'

abbrev pub SpendsAndAppends : Target → List Operand → Machine → Result Value Halt → Machine → Type 0
SpendsAndAppends t list m r m' = Leaves (append_by_step m.runtime.names.scalars t list) m r m'

-- a place with its operand gets it
abbrev pub AppendsAt : Place → (operand : Value) → List Operand → Machine → Result Value Halt → Machine → Type 0
AppendsAt p key list m r m' = Leaves (append_operands_at m.runtime.names.scalars p key list) m r m'

-- a place gets the texts of two values
abbrev pub AppendsBehind : Place → (operand old behind : Value) → Machine → Result Value Halt → Machine → Type 0
AppendsBehind p key old behind m r m' = Leaves (assign_by_at m.runtime.names.scalars None p key (value.Text (str_of old ++ str_of behind))) m r m'

-- the element at a key gets its text with these bytes behind it
pub record AppendsBytes (a : Array) (k : Key) (text : List ℕ) (m m' : Machine) : Type 0 where
  pub key : Value
  pub at_hand : IsKeyAtHand k key m
  pub operands : m'.operands ≡ m.operands
  pub calls : m'.runtime.frames.callers ≡ m.runtime.frames.callers
  pub appends : AppendsIn (place.Element a) key text m.runtime m'.runtime

-- operands are read, which changes nothing, and their texts stand behind what was there
pub record Joins (list : List Operand) (m : Machine) (before after : List ℕ) : Type 0 where
  pub values : List Value
  pub read : Changes (operand_values m.runtime.names.scalars list) m.runtime m.runtime (Ok values)
  pub text : after ≡ before ++ concat (map str_of values)
