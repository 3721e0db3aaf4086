-- What is added to the uses of names.
use Rattle.std.specs.Prelude.{◌≡◌, List, ◌++◌}
use Rattle.awk_kinds.specs.declared.uses.ArrayUse.{ArrayUse}
use Rattle.awk_kinds.specs.declared.uses.NameUse.{NameUse}
use Rattle.awk_kinds.specs.declared.uses.Uses.{Uses}

-- these uses as arrays, and these others
pub record Adds (old new : Uses) (us : List ArrayUse) (ns : List NameUse) : Type 0 where
  pub arrays : new.arrays.items ≡ old.arrays.items ++ us
  pub names : new.names.items ≡ old.names.items ++ ns
