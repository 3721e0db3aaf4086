-- Whether a variable is both an array and a scalar, where the arrays are known.
use Rattle.std.specs.Prelude.{ℕ, Bool, true, false, ◌&&◌, ◌||◌, not, List, Option, Some, None}
use Rattle.std.specs.List.{list_any}
use Rattle.awk_kinds.specs.declared.variable.Variable.TheVariants.{Global, Parameter}
use Rattle.awk_kinds.specs.declared.uses.ArrayUse.{ArrayUse}
use Rattle.awk_kinds.specs.declared.uses.ArrayUse.TheVariants.{Used, Passed}
use Rattle.awk_kinds.specs.declared.uses.NameUse.{NameUse}
use Rattle.awk_kinds.specs.declared.uses.NameUse.TheVariants.{Computed, NoArray}
use Rattle.awk_kinds.specs.declared.functions.Functions.{Functions}
use Rattle.awk_kinds.specs.declared.arrays.Arrays.{Arrays}
use Rattle.awk_kinds.specs.definitions.SpecialNames.{special_scalars}
use Rattle.awk_kinds.specs.support.Functions.{found, parameter_at}
use Rattle.awk_kinds.specs.support.Arrays.{is_marked}
use Rattle.awk_kinds.specs.support.Misuses.{any_scalar}

abbrev pub is_marked_global : Arrays → List ℕ → Bool
is_marked_global arrays x = is_marked arrays (Global x)

abbrev pub is_marked_at : Arrays → List ℕ → Option (List ℕ) → Bool
is_marked_at arrays f None = false
is_marked_at arrays f (Some x) = is_marked arrays (Parameter f x)

abbrev pub is_marked_parameter : Functions → Arrays → List ℕ → ℕ → Bool
is_marked_parameter functions arrays f n = is_marked_at arrays f (parameter_at (found functions f) n)

abbrev pub passes_marked : Functions → Arrays → ArrayUse → Bool
passes_marked functions arrays (Used v) = false
passes_marked functions arrays (Passed v f n) = is_marked arrays v && not (is_marked_parameter functions arrays f n)

abbrev pub lacks_array : Functions → Arrays → NameUse → Bool
lacks_array functions arrays (Computed f n) = is_marked_parameter functions arrays f n
lacks_array functions arrays NoArray = true
lacks_array functions arrays name = false

abbrev pub mixes : Functions → Arrays → List ArrayUse → List NameUse → Bool
mixes functions arrays us ns =
    list_any (is_marked_global arrays) special_scalars
    || (any_scalar (is_marked arrays) ns || (list_any (passes_marked functions arrays) us || list_any (lacks_array functions arrays) ns))
