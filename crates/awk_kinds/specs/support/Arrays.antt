-- Which variables are marked as arrays.
use Rattle.std.specs.Prelude.{◌≡◌, ℕ, Bool, true, false, List, get_or, Option, Some, None, position}
use Rattle.awk_kinds.specs.declared.variable.Variable.{Variable}
use Rattle.awk_kinds.specs.declared.uses.ArrayUse.{ArrayUse}
use Rattle.awk_kinds.specs.declared.functions.Functions.{Functions}
use Rattle.awk_kinds.specs.declared.arrays.Arrays.{Arrays}
use Rattle.awk_kinds.specs.definitions.Kinds.{same_variable}
use Rattle.awk_kinds.specs.support.Graph.{IsClosedUnder}

abbrev pub mark_at : List Bool → Option ℕ → Bool
mark_at marks None = false
mark_at marks (Some number) = get_or marks number false

abbrev pub is_marked : Arrays → Variable → Bool
is_marked arrays v = mark_at arrays.marks.items (position (same_variable v) arrays.variables.keys)

-- what is marked is the least set that is closed under the uses
pub record MarksLeast (functions : Functions) (us : List ArrayUse) (arrays : Arrays) : Type 0 where
  pub closed : IsClosedUnder functions (is_marked arrays) us
  pub least : (P : Variable → Bool) → IsClosedUnder functions P us → (v : Variable) → is_marked arrays v ≡ true → P v ≡ true
