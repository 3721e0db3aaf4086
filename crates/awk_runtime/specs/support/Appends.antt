-- Texts that are appended to variables.
use Rattle.std.specs.Prelude.{◌≡◌, ◌++◌, ℕ, List, None, Result, Ok}
use Rattle.awk_value.specs.declared.value.Value.{Value}
use Rattle.awk_value.specs.declared.value.Value.TheVariants as value
use Rattle.awk_value.specs.Values.{str_of}
use Rattle.awk_semantics.specs.declared.halt.Halt.{Halt}
use Rattle.awk_semantics.specs.State.{Run, ◌>>=◌, lift}
use Rattle.awk_storage.specs.declared.position.Variable.{Variable}
use Rattle.awk_storage.specs.declared.position.Place.{Place}
use Rattle.awk_storage.specs.declared.position.Place.TheVariants as place
use Rattle.awk_storage.specs.Positions.{read_variable, put_variable, read_at, assign_by_at}
use Rattle.awk_runtime.specs.declared.runtime.Runtime.{Runtime}
use Rattle.awk_runtime.specs.support.Simulation.{Changes}

-- a variable gets the texts of two values, one behind the other
abbrev pub appended : List (List ℕ) → Variable → (left right : Value) → Run Value
appended names x left right = lift (Ok (value.Text (str_of left ++ str_of right))) >>= λ w. assign_by_at names None (place.Variable x) value.Nothing w

-- a variable may be let go of before it gets a value
pub record LetsGo (x : Variable) (old new : Runtime) : Type 0 where
  pub names : new.names ≡ old.names
  pub callers : new.frames.callers ≡ old.frames.callers
  pub streams : new.streams ≡ old.streams
  pub steps : new.steps ≡ old.steps
  pub puts : (w : Value) {after : Runtime} {r : Result (Unit {0}) Halt} → Changes (put_variable new.names.scalars x w) new after r → Changes (put_variable old.names.scalars x w) old after r

-- a variable gets its text with that of a value behind it
pub record AppendsText (x : Variable) (behind : Value) (old new : Runtime) : Type 0 where
  pub before : Value
  pub read : Changes (read_variable old.names.scalars x) old old (Ok before)
  pub after : Value
  pub appends : Changes (appended old.names.scalars x before behind) old new (Ok after)

-- a place gets its text with these bytes behind it
pub record AppendsAt (p : Place) (operand : Value) (behind : List ℕ) (old new : Runtime) : Type 0 where
  pub before : Value
  pub read : Changes (read_at old.names.scalars p operand) old old (Ok before)
  pub after : Value
  pub appends : Changes (assign_by_at old.names.scalars None p operand (value.Text (str_of before ++ behind))) old new (Ok after)
