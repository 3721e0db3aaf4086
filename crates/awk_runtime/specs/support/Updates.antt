-- Numbers that are changed where they stand.
use Rattle.std.specs.Prelude.{◌≡◌, ℤ, Option, Some, None, Result, Ok, Err}
use Rattle.awk_value.specs.declared.value.Value.{Value}
use Rattle.awk_value.specs.declared.value.Value.TheVariants.{Number}
use Rattle.awk_lex.specs.declared.token.Operator.{Operator}
use Rattle.awk_semantics.specs.declared.halt.Halt.{Halt}
use Rattle.awk_semantics.specs.State.{Run}
use Rattle.awk_semantics.specs.Operators.{applied}
use Rattle.awk_storage.specs.declared.position.Variable.{Variable}
use Rattle.awk_storage.specs.declared.position.Place.{Place}
use Rattle.awk_storage.specs.Positions.{read_variable, put_variable, read_at, store_at}
use Rattle.awk_runtime.specs.declared.places.Updated.{Updated}
use Rattle.awk_runtime.specs.declared.runtime.Runtime.{Runtime}
use Rattle.awk_runtime.specs.support.Simulation.{Changes}

-- the number of a variable becomes what an operator makes of it and of another one
pub record UpdatesVariable (operator : Operator) (x : Variable) (n : ℤ) (old new : Runtime) (u : Updated) : Type 0 where
  pub read : Changes (read_variable old.names.scalars x) old old (Ok (Number u.before))
  pub made : applied operator (Number u.before) (Number n) ≡ Ok (Number u.after)
  pub put : Changes (put_variable old.names.scalars x (Number u.after)) old new (Ok tt)
  pub again : Changes (read_variable old.names.scalars x) new new (Ok (Number u.after))

-- the same of a place, with its operand, and of a value
pub record Updates (operator : Operator) (p : Place) (operand v : Value) (old new : Runtime) (u : Updated) : Type 0 where
  pub read : Changes (read_at old.names.scalars p operand) old old (Ok (Number u.before))
  pub made : applied operator (Number u.before) v ≡ Ok (Number u.after)
  pub put : Changes (store_at old.names.scalars p operand (Number u.after)) old new (Ok tt)
  pub again : Changes (read_at old.names.scalars p operand) new new (Ok (Number u.after))

-- a variable gets a number
pub record PutsNumber (x : Variable) (n : ℤ) (old new : Runtime) : Type 0 where
  pub put : Changes (put_variable old.names.scalars x (Number n)) old new (Ok tt)
  pub again : Changes (read_variable old.names.scalars x) new new (Ok (Number n))

-- a run gives a number
pub record GivesNumber (run : Run Value) (old new : Runtime) : Type 0 where
  pub number : ℤ
  pub changes : Changes run old new (Ok (Number number))

-- a run gives some value, or ends

abbrev pub GivesBy : Run Value → (old : Runtime) → Result (Unit {0}) Halt → (new : Runtime) → Type 0
GivesBy run old (Ok u) new = (w : Value) × Changes run old new (Ok w)
GivesBy run old (Err h) new = Changes run old new (Err h)

pub record Gives (run : Run Value) (old : Runtime) (r : Result (Unit {0}) Halt) (new : Runtime) : Type 0 where
  pub gives : GivesBy run old r new

-- a value becomes a number, or what an operator makes of its number and of this one

abbrev pub ChangesValueBy : Option Operator → ℤ → (old new : Value) → Type 0
ChangesValueBy None n old new = new ≡ Number n
ChangesValueBy (Some o) n old new = (x : ℤ) × (y : ℤ) × (old ≡ Number x) × (new ≡ Number y) × (applied o (Number x) (Number n) ≡ Ok (Number y))

pub record ChangesValue (o : Option Operator) (n : ℤ) (old new : Value) : Type 0 where
  pub changes : ChangesValueBy o n old new
