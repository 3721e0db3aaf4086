-- What is read, and put behind a line that is printed.
use Rattle.std.specs.Prelude.{◌≡◌, ℕ, List, ◌++◌, Ok}
use Rattle.awk_value.specs.declared.value.Value.{Value}
use Rattle.awk_value.specs.Values.{str_of}
use Rattle.awk_semantics.specs.State.{Run}
use Rattle.awk_runtime.specs.declared.runtime.Runtime.{Runtime}
use Rattle.awk_runtime.specs.support.Simulation.{Changes}

-- a value is read, which changes nothing, and its text is put behind a line
pub record AppendsText (run : Run Value) (m : Runtime) (before after : List ℕ) : Type 0 where
  pub value : Value
  pub changes : Changes run m m (Ok value)
  pub text : after ≡ before ++ str_of value
