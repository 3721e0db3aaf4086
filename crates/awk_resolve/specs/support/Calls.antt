-- How the arguments of a call are given.
use Rattle.std.specs.Prelude.{◌≡◌, ℕ, suc, Bool, true, false, List, [], ◌∷◌, drop, map, get_or, slice_get, Option, Some, if◌then◌else◌}
use Rattle.std.specs.Option.{option_and_then}
use Rattle.awk_grammar.specs.Tree.{Expr, Name, Exprs, Nil, Cons}
use Rattle.awk_kinds.specs.definitions.Signatures.{place_of, signature_names}
use Rattle.awk_semantics.specs.definitions.BuiltIns.{Role, AsArray, AsValue}
use Rattle.awk_resolve.specs.declared.builder.Builder.{Builder}
use Rattle.awk_resolve.specs.declared.node.ArgumentForm.{ArgumentForm}
use Rattle.awk_resolve.specs.declared.node.ArgumentForm.TheVariants as form
use Rattle.awk_resolve.specs.declared.scope.Scope.{Scope}
use Rattle.awk_resolve.specs.support.Builds.{array_parameters_in, IsArrayOf}
use Rattle.awk_resolve.specs.support.Scopes.{parameters_of}

-- which parameters of a function are arrays
abbrev pub arrays_of : Builder → (function : ℕ) → List Bool
arrays_of b f = get_or (array_parameters_in b) f []

-- the same of the function of a name, if there is one
abbrev pub arrays_called : Scope → Builder → (name : List ℕ) → Option (List Bool)
arrays_called scope b name = option_and_then (λ f. slice_get (array_parameters_in b) f) (place_of (signature_names scope.kinds.now.functions) name)

-- the function of a name, and which of its parameters are arrays
pub record IsCalled (scope : Scope) (b : Builder) (name : List ℕ) (function : ℕ) (are_arrays : List Bool) : Type 0 where
  pub number : place_of (signature_names scope.kinds.now.functions) name ≡ Some function
  pub arrays : slice_get (array_parameters_in b) function ≡ Some are_arrays

abbrev pub is_array_at : (are_arrays : List Bool) → ℕ → Bool
is_array_at arrays i = get_or arrays i false

abbrev pub name_in : Expr → List ℕ
name_in (Name x) = x
name_in e = []

abbrev pub role_by : (is_array : Bool) → Role
role_by b = if b then AsArray else AsValue

-- the roles from a place on
abbrev pub roles_from : ℕ → (are_arrays : List Bool) → List Role
roles_from i arrays = drop i (map role_by arrays)

abbrev pub IsFormOf : Scope → (is_array : Bool) → ArgumentForm → Expr → Type 0
IsFormOf scope true (form.Array a) e = IsArrayOf scope.kinds.now (parameters_of scope) a (name_in e)
IsFormOf scope true form.Value e = ⊥
IsFormOf scope false (form.Array a) e = ⊥
IsFormOf scope false form.Value e = Unit {0}

-- forms of arguments from a place on
abbrev pub AreForms : Scope → (are_arrays : List Bool) → ℕ → List ArgumentForm → Exprs → Type 0
AreForms scope arrays i [] Nil = Unit {0}
AreForms scope arrays i [] (Cons e es) = ⊥
AreForms scope arrays i (f ∷ fs) Nil = ⊥
AreForms scope arrays i (f ∷ fs) (Cons e es) = IsFormOf scope (is_array_at arrays i) f e × AreForms scope arrays (suc i) fs es
