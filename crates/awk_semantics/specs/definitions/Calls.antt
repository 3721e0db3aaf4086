-- Calls of a program's functions (POSIX awk, User-Defined Functions): scalars are passed by value, arrays by reference; for
-- want of an argument a parameter was never assigned, or is a new empty array.
use Rattle.std.specs.Prelude.{ℕ, zero, suc, List, [], ◌∷◌, map, bytes_eq, Option, Some, None, Err, if◌then◌else◌}
use Rattle.awk_value.specs.declared.value.Value.{Value}
use Rattle.awk_value.specs.declared.value.Value.TheVariants as value
use Rattle.awk_grammar.specs.Height.{height_of_block}
use Rattle.awk_semantics.specs.declared.flow.Flow.{Flow}
use Rattle.awk_semantics.specs.declared.flow.Flow.TheVariants as flow
use Rattle.awk_semantics.specs.declared.halt.Halt.TheVariants as halt
use Rattle.awk_semantics.specs.declared.local.Local.{Local}
use Rattle.awk_semantics.specs.definitions.State.{Run, ◌>>=◌, lift, ret}
use Rattle.awk_kinds.specs.definitions.Kinds.{FormalParameter, Definition}
use Rattle.awk_semantics.specs.definitions.Primitives.{enter, leave}
use Rattle.awk_semantics.specs.definitions.BuiltIns.{Role, AsValue, AsArray}
use Rattle.awk_semantics.specs.definitions.Semantics.{Functions, exec_all}

-- the function of a name, if there is one: a program that calls another is refused
abbrev pub definition_of : List Definition → List ℕ → Option Definition
definition_of [] f = None
definition_of (d ∷ ds) f = if bytes_eq f d.name then Some d else definition_of ds f

abbrev pub role_of : FormalParameter → Role
role_of p = if p.is_array then AsArray else AsValue

abbrev pub parameter_roles : Option Definition → List Role
parameter_roles None = []
parameter_roles (Some d) = map role_of d.parameters

abbrev pub body_height : Option Definition → ℕ
body_height None = 0
body_height (Some d) = height_of_block d.body

-- what a body returns that passes on so: without `return`, what was never assigned
abbrev pub returned : Flow → Value
returned (flow.Return v) = v
returned f = value.Nothing

-- a call, by what its body does
abbrev pub call_by : Option Definition → List Local → (Definition → Run Flow) → Run Value
call_by None given body = ret value.Nothing
call_by (Some d) given body = enter d.parameters (height_of_block d.body) given >>= λ _. body d >>= λ f. leave >>= λ _. ret (returned f)

-- the functions, where a call does this
abbrev pub functions_by : List Definition → (List ℕ → List Local → Run Value) → Functions
functions_by ds call = record {
  roles = λ f. parameter_roles (definition_of ds f);
  height = λ f. body_height (definition_of ds f);
  call = call;
}

-- a call with at most n active at once: each spent a step
unfoldable pub call_within : List Definition → ℕ → List ℕ → List Local → Run Value
call_within ds zero f given = lift (Err halt.OutOfSteps)
call_within ds (suc n) f given = call_by (definition_of ds f) given (λ d. exec_all (functions_by ds (call_within ds n)) d.body)

-- the functions of a run of so many steps
abbrev pub functions_within : List Definition → (steps : ℕ) → Functions
functions_within ds n = functions_by ds (call_within ds n)
