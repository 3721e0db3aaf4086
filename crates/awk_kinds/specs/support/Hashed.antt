-- What a hasher is told of a variable.
use Rattle.std.specs.Prelude.{ℕ, List, ◌++◌}
use Rattle.std.specs.Hash.{slice, u8}
use Rattle.awk_kinds.specs.declared.variable.Variable.{Variable}
use Rattle.awk_kinds.specs.declared.variable.Variable.TheVariants.{Global, Parameter}

abbrev pub hashed : Variable → List (List ℕ)
hashed (Global x) = slice u8 x
hashed (Parameter f x) = slice u8 f ++ slice u8 x
