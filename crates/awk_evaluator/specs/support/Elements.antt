-- Keys of elements that are read where they stand, and what is done with the elements.
use Rattle.std.specs.Prelude.{◌≡◌, ℕ, ℤ, Bool, true, false, List, map, Option, Result, Ok, Err, IfSome, IfNone, IfErr}
use Rattle.std.specs.List.{concat}
use Rattle.awk_value.specs.declared.value.Value.{Value}
use Rattle.awk_value.specs.declared.value.Value.TheVariants as value
use Rattle.awk_value.specs.Values.{str_of}
use Rattle.awk_lex.specs.declared.token.IncrementOperator.{IncrementOperator}
use Rattle.awk_lex.specs.declared.token.Operator.{Operator}
use Rattle.awk_semantics.specs.declared.halt.Halt.{Halt}
use Rattle.awk_semantics.specs.State.{Run, ◌>>=◌, ret}
use Rattle.awk_semantics.specs.Operators.{truth_value}
use Rattle.awk_storage.specs.declared.position.Array.{Array}
use Rattle.awk_storage.specs.declared.position.Place.TheVariants as place
use Rattle.awk_storage.specs.Positions.{read_element_of, assign_by_at, post_increment_at}
use Rattle.awk_storage.specs.Forms.{contains_at}
use Rattle.awk_resolve.specs.declared.node.Key.{Key}
use Rattle.awk_resolve.specs.declared.node.Operand.{Operand}
use Rattle.awk_resolve.specs.Nodes.{operand_values}
use Rattle.awk_runtime.specs.Simulation.{Changes}
use Rattle.awk_runtime.specs.support.Updates.{Gives}
use Rattle.awk_runtime.specs.support.Appends.{AppendsAt}
use Rattle.awk_evaluator.specs.declared.machine.Machine.{Machine}
use Rattle.awk_evaluator.specs.support.Quick.{IsKeyAtHand, Pushed}

-- the texts of operands, one behind the other, are at hand
pub record IsJoinedAtHand (list : List Operand) (v : Value) (m : Machine) : Type 0 where
  pub changes : Changes (operand_values m.runtime.names.scalars list >>= λ ws. ret (value.Text (concat (map str_of ws)))) m.runtime m.runtime (Ok v)

-- an answer comes of what is done where a value is the key
pub record Acts {Answer : Type 0} (is_key : Value → Type 0) (does : Value → Machine → Answer → Machine → Type 0) (m : Machine) (answer : Answer) (m' : Machine) : Type 0 where
  pub key : Value
  pub at_hand : is_key key
  pub acted : does key m answer m'

-- whether something is done, and else nothing changes
pub record DoesOrKeeps (done : Type 0) (m : Machine) (answer : Bool) (m' : Machine) : Type 0 where
  pub does : answer ≡ true → done
  pub keeps : answer ≡ false → m' ≡ m

-- the element at a key is put on the stack, or whether there is one
pub record PutsElement (a : Array) (key : Value) (m m' : Machine) : Type 0 where
  pub element : Value
  pub read : Changes (read_element_of a (str_of key)) m.runtime m.runtime (Ok element)
  pub pushed : Pushed element m m'

pub record PutsContains (a : Array) (key : Value) (m m' : Machine) : Type 0 where
  pub found : Bool
  pub read : Changes (contains_at a (str_of key)) m.runtime m.runtime (Ok found)
  pub pushed : Pushed (truth_value found) m m'

-- whether there is one is answered
pub record AnswersContains (a : Array) (key : Value) (m : Machine) (answer : Option Bool) (m' : Machine) : Type 0 where
  pub found : IfSome answer (λ found. Changes (contains_at a (str_of key)) m.runtime m.runtime (Ok found))
  pub same : m' ≡ m

-- it gets a value, or what an operator makes of its own and of this one
pub record GivesElement (o : Option Operator) (a : Array) (key w : Value) (m m' : Machine) : Type 0 where
  pub gives : Gives (assign_by_at m.runtime.names.scalars o (place.Element a) key w) m.runtime (Ok tt) m'.runtime
  pub operands : m'.operands ≡ m.operands
  pub calls : m'.runtime.frames.callers ≡ m.runtime.frames.callers

-- its number is raised or lowered by 1, and was the one that is answered
pub record RaisesElement (o : IncrementOperator) (a : Array) (key : Value) (m : Machine) (answer : Option ℤ) (m' : Machine) : Type 0 where
  pub raises : IfSome answer (λ n. Changes (post_increment_at m.runtime.names.scalars o (place.Element a) key) m.runtime m'.runtime (Ok (value.Number n)))
  pub keeps : IfNone answer (m' ≡ m)
  pub operands : m'.operands ≡ m.operands
  pub calls : m'.runtime.frames.callers ≡ m.runtime.frames.callers

-- the same at a key that is at hand
pub record RaisesAtKey (o : IncrementOperator) (a : Array) (k : Key) (m : Machine) (n : ℤ) (m' : Machine) : Type 0 where
  pub key : Value
  pub at_hand : IsKeyAtHand k key m
  pub raises : Changes (post_increment_at m.runtime.names.scalars o (place.Element a) key) m.runtime m'.runtime (Ok (value.Number n))
  pub operands : m'.operands ≡ m.operands
  pub calls : m'.runtime.frames.callers ≡ m.runtime.frames.callers

-- its text gets bytes behind it
pub record AppendsElement (a : Array) (key : Value) (text : List ℕ) (m : Machine) (answer : Result Bool Halt) (m' : Machine) : Type 0 where
  pub appends : answer ≡ Ok true → AppendsAt (place.Element a) key text m.runtime m'.runtime
  pub keeps : answer ≡ Ok false → m' ≡ m
  pub refused : IfErr answer (λ halt. (run : Run Value) → Changes run m.runtime m'.runtime (Err halt))
  pub operands : m'.operands ≡ m.operands
