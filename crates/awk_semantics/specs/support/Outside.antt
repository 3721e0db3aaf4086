-- Names of the whole program, as the code reads them where no parameter hides them.
use Rattle.std.specs.Prelude.{ℕ, List}
use Rattle.awk_value.specs.declared.value.Value.{Value}
use Rattle.awk_semantics.specs.definitions.State.{Run, gives}
use Rattle.awk_semantics.specs.definitions.Primitives.{global_value}

-- the value of a name of the whole program, also where a parameter of a call has that name
unfoldable pub read_outside : List ℕ → Run Value
read_outside x s = gives (global_value s x) s
