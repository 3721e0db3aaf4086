-- What is told against the names of a program, where its functions are known.
use Rattle.std.specs.Prelude.{ℕ, nat_lt, Bool, false, ◌&&◌, ◌||◌, not, List, length, Option, Some, None, is_some}
use Rattle.std.specs.List.{list_any}
use Rattle.awk_lex.specs.Words.{is_left_out}
use Rattle.awk_grammar.specs.Tree.{Item, Function}
use Rattle.awk_kinds.specs.declared.variable.Variable.{Variable}
use Rattle.awk_kinds.specs.declared.variable.Variable.TheVariants.{Global, Parameter}
use Rattle.awk_kinds.specs.declared.uses.ArrayUse.{ArrayUse}
use Rattle.awk_kinds.specs.declared.uses.NameUse.{NameUse}
use Rattle.awk_kinds.specs.declared.uses.NameUse.TheVariants.{AsScalar, Measured, Called}
use Rattle.awk_kinds.specs.declared.functions.Functions.{Functions}
use Rattle.awk_kinds.specs.definitions.Kinds.{in_array_use}
use Rattle.awk_kinds.specs.definitions.Fits.{has_repeat, is_special}
use Rattle.awk_kinds.specs.support.Functions.{found}

abbrev pub unknown_call : Functions → NameUse → Bool
unknown_call functions (Called f count) = not (is_some (found functions f)) && not (is_left_out f)
unknown_call functions name = false

-- fewer parameters than arguments
abbrev pub are_fewer : Option (List (List ℕ)) → ℕ → Bool
are_fewer None count = false
are_fewer (Some parameters) count = nat_lt (length parameters) count

abbrev pub overfull_call : Functions → NameUse → Bool
overfull_call functions (Called f count) = are_fewer (found functions f) count
overfull_call functions name = false

-- a function's name, or a special variable's
abbrev pub is_taken : Functions → List ℕ → Bool
is_taken functions x = is_some (found functions x) || is_special x

abbrev pub refused_parameters : Functions → List (List ℕ) → Bool
refused_parameters functions parameters = has_repeat parameters || list_any (is_taken functions) parameters

abbrev pub refused_item : Functions → Item → Bool
refused_item functions (Function f parameters block) = refused_parameters functions parameters
refused_item functions x = false

abbrev pub function_variable : Functions → Variable → Bool
function_variable functions (Global x) = is_some (found functions x)
function_variable functions (Parameter f x) = false

-- a variable that is used as a scalar passes the test
abbrev pub as_scalar : (Variable → Bool) → NameUse → Bool
as_scalar test (AsScalar v) = test v
as_scalar test name = false

-- a variable that is used as a scalar or measured passes the test
abbrev pub as_variable : (Variable → Bool) → NameUse → Bool
as_variable test (AsScalar v) = test v
as_variable test (Measured v) = test v
as_variable test name = false

abbrev pub any_array : (Variable → Bool) → List ArrayUse → Bool
any_array test arrays = list_any (λ u. test (in_array_use u)) arrays

abbrev pub any_scalar : (Variable → Bool) → List NameUse → Bool
any_scalar test names = list_any (as_scalar test) names

abbrev pub any_named : (Variable → Bool) → List NameUse → Bool
any_named test names = list_any (as_variable test) names

-- a variable that is used passes the test
abbrev pub any_variable : (Variable → Bool) → List ArrayUse → List NameUse → Bool
any_variable test arrays names = any_array test arrays || any_named test names
