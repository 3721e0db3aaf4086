-- Which programs are refused for what their names and statements are, and why: the first cause that holds.
use Rattle.std.specs.Prelude.{◌≡◌, ℕ, nat_lt, Bool, true, false, ◌&&◌, ◌||◌, not, List, [], ◌∷◌, ◌++◌, length, map, slice_get, Option, Some, None, if◌then◌else◌}
use Rattle.std.specs.List.{list_any}
use Rattle.awk_kinds.specs.definitions.Names.{has_name}
use Rattle.awk_lex.specs.Words.{is_left_out}
use Rattle.awk_lex.specs.declared.refusal.RefusalCode.{RefusalCode}
use Rattle.awk_lex.specs.declared.refusal.RefusalCode.TheVariants.{UnknownFunction, DefinedTwice, TooManyArguments, ParameterRefused, StatementOutOfPlace, NameLeftOut, FunctionAsVariable, ArrayAndScalar}
use Rattle.awk_grammar.specs.Tree.{Item, Function}
use Rattle.awk_kinds.specs.definitions.SpecialNames.{special_arrays, special_scalars}
use Rattle.awk_kinds.specs.definitions.Placed.{are_in_place}
use Rattle.awk_kinds.specs.declared.variable.Variable.{Variable}
use Rattle.awk_kinds.specs.declared.variable.Variable.TheVariants.{Global, Parameter}
use Rattle.awk_kinds.specs.declared.uses.ArrayUse.{ArrayUse}
use Rattle.awk_kinds.specs.declared.uses.ArrayUse.TheVariants.{Used, Passed}
use Rattle.awk_kinds.specs.declared.uses.NameUse.{NameUse}
use Rattle.awk_kinds.specs.declared.uses.NameUse.TheVariants.{AsScalar, Measured, Called, Computed, NoArray}
use Rattle.awk_kinds.specs.definitions.Kinds.{uses_in, in_array_use, parameters_of, is_member, is_parameter_among, arrays_of, function_names_of}
use Rattle.awk_kinds.specs.definitions.NameUses.{names_in}

abbrev pub is_special : List ℕ → Bool
is_special x = has_name (special_arrays ++ special_scalars) x

-- a name stands twice in the list
abbrev pub has_repeat : List (List ℕ) → Bool
has_repeat [] = false
has_repeat (x ∷ xs) = has_name xs x || has_repeat xs

abbrev pub is_function : List Item → List ℕ → Bool
is_function items x = has_name (function_names_of items) x

-- K2: neither defined nor left out
abbrev pub is_unknown_call : List Item → NameUse → Bool
is_unknown_call items (Called f count) = not (is_function items f) && not (is_left_out f)
is_unknown_call items name = false

-- K4: more arguments than parameters
abbrev pub is_overfull_call : List Item → NameUse → Bool
is_overfull_call items (Called f count) = is_function items f && nat_lt (length (parameters_of items f)) count
is_overfull_call items name = false

-- K5: one of its parameters is repeated, or named as a function, perhaps this one, or as a special variable
abbrev pub has_refused_parameter : List Item → Item → Bool
has_refused_parameter items (Function f parameters block) = has_repeat parameters || list_any (λ x. is_function items x || is_special x) parameters
has_refused_parameter items x = false

-- the variable that a form uses as a scalar, if it uses one; one that is measured is not so used
abbrev pub in_scalar_use : NameUse → List Variable
in_scalar_use (AsScalar v) = v ∷ []
in_scalar_use name = []

abbrev pub scalars_among : List NameUse → List Variable
scalars_among [] = []
scalars_among (name ∷ names) = in_scalar_use name ++ scalars_among names

-- the variable that a form uses as a scalar or measures, if it does either
abbrev pub in_name_use : NameUse → List Variable
in_name_use (AsScalar v) = v ∷ []
in_name_use (Measured v) = v ∷ []
in_name_use name = []

abbrev pub variables_among : List NameUse → List Variable
variables_among [] = []
variables_among (name ∷ names) = in_name_use name ++ variables_among names

-- all variables that are used, in any way: as arrays or passed, as scalars, or measured
abbrev pub variables_in : List Item → List Variable
variables_in items = map in_array_use (uses_in items) ++ variables_among (names_in items)

-- K7: a name left out is a function's or a parameter's, is called, or is a variable's
abbrev pub item_names_left_out : Item → Bool
item_names_left_out (Function f parameters block) = is_left_out f || list_any is_left_out parameters
item_names_left_out x = false

abbrev pub calls_left_out : NameUse → Bool
calls_left_out (Called f count) = is_left_out f
calls_left_out name = false

abbrev pub is_variable_left_out : Variable → Bool
is_variable_left_out (Global x) = is_left_out x
is_variable_left_out (Parameter f x) = is_left_out x

-- K8: a variable of the whole program has a function's name
abbrev pub is_function_name : List Item → Variable → Bool
is_function_name items (Global x) = is_function items x
is_function_name items (Parameter f x) = false

-- K1: a variable is used as a scalar; also where it is passed and no array stands there
abbrev pub passed_by_value : List Item → (arrays : List Variable) → ArrayUse → List Variable
passed_by_value items arrays (Used v) = []
passed_by_value items arrays (Passed v f n) = if is_parameter_among arrays f (slice_get (parameters_of items f) n) then [] else v ∷ []

abbrev pub all_passed_by_value : List Item → (arrays : List Variable) → List ArrayUse → List Variable
all_passed_by_value items arrays [] = []
all_passed_by_value items arrays (use' ∷ uses) = passed_by_value items arrays use' ++ all_passed_by_value items arrays uses

abbrev pub used_as_scalars : List Item → (arrays : List Variable) → List Variable
used_as_scalars items arrays = map (λ x. Global x) special_scalars ++ (scalars_among (names_in items) ++ all_passed_by_value items arrays (uses_in items))

-- an array is wanted, and no bare name is given
abbrev pub lacks_array : List Item → (arrays : List Variable) → NameUse → Bool
lacks_array items arrays (Computed f n) = is_parameter_among arrays f (slice_get (parameters_of items f) n)
lacks_array items arrays NoArray = true
lacks_array items arrays name = false

abbrev pub mixes_kinds : List Item → (arrays : List Variable) → Bool
mixes_kinds items arrays = list_any (is_member arrays) (used_as_scalars items arrays) || list_any (lacks_array items arrays) (names_in items)

-- the cause holds: one of K2 to K8, or K1; no other is told of a tree
abbrev pub holds : RefusalCode → List Item → Bool
holds UnknownFunction items = list_any (is_unknown_call items) (names_in items)
holds DefinedTwice items = has_repeat (function_names_of items)
holds TooManyArguments items = list_any (is_overfull_call items) (names_in items)
holds ParameterRefused items = list_any (has_refused_parameter items) items
holds StatementOutOfPlace items = not (are_in_place items)
holds NameLeftOut items = list_any item_names_left_out items || (list_any calls_left_out (names_in items) || list_any is_variable_left_out (variables_in items))
holds FunctionAsVariable items = list_any is_special (function_names_of items) || list_any (is_function_name items) (variables_in items)
holds ArrayAndScalar items = mixes_kinds items (arrays_of items)
holds code items = false

-- the order in which they are told
abbrev pub in_order : List RefusalCode
in_order = UnknownFunction ∷ DefinedTwice ∷ TooManyArguments ∷ ParameterRefused ∷ StatementOutOfPlace ∷ NameLeftOut ∷ FunctionAsVariable ∷ ArrayAndScalar ∷ []

abbrev pub first_of : List RefusalCode → List Item → Option RefusalCode
first_of [] items = None
first_of (code ∷ codes') items = if holds code items then Some code else first_of codes' items

abbrev pub first_refusal : List Item → Option RefusalCode
first_refusal items = first_of in_order items

-- none holds
abbrev pub Fits : List Item → Type 0
Fits items = (code : RefusalCode) → holds code items ≡ false

-- a program fits exactly where nothing is told against it
pub record LawOfRefusals (items : List Item) : Type 0 where
  pub fits : first_refusal items ≡ None → Fits items
  pub none : Fits items → first_refusal items ≡ None
