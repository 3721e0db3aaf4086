-- What is known of a program's names.
use Rattle.std.specs.Prelude.{◌≡◌, List}
use Rattle.awk_grammar.specs.Tree.{Item}
use Rattle.awk_kinds.specs.declared.variable.Variable.{Variable}
use Rattle.awk_kinds.specs.declared.uses.Uses.{Uses}
use Rattle.awk_kinds.specs.declared.arrays.Arrays.{Arrays}
use Rattle.awk_kinds.specs.definitions.Kinds.{uses_in, is_member, arrays_of}
use Rattle.awk_kinds.specs.definitions.NameUses.{names_in}
use Rattle.awk_kinds.specs.support.Arrays.{is_marked}

pub record HoldsUses (items : List Item) (uses : Uses) : Type 0 where
  pub arrays : uses.arrays.items ≡ uses_in items
  pub names : uses.names.items ≡ names_in items

-- the marks are on exactly the arrays
pub record HoldsArrays (items : List Item) (arrays : Arrays) : Type 0 where
  pub marked : (v : Variable) → is_marked arrays v ≡ is_member (arrays_of items) v
