-- Where names of a part of a program stand.
use Rattle.std.specs.Prelude.{◌≡◌, ℕ, List, [], Option, Some, None}
use Rattle.std.specs.Borrow.{Bor}
use Rattle.std.specs.Global.{Vec}
use Rattle.awk_kinds.specs.definitions.Kinds.{FormalParameter}
use Rattle.awk_kinds.specs.definitions.Signatures.{ProgramKinds}
use Rattle.awk_resolve.specs.declared.builder.Builder.{Builder}
use Rattle.awk_resolve.specs.declared.scope.Scope.{Scope}
use Rattle.awk_grammar.specs.declared.tree.PrintForm.{PrintForm}
use Rattle.awk_grammar.specs.Tree.{Expr, Exprs, OptionalExpr, PrintList, Standard, Expression, Print, Simple}
use Rattle.awk_semantics.specs.definitions.BuiltIns.{bare_name}
use Rattle.awk_storage.specs.declared.position.Array.{Array}
use Rattle.awk_storage.specs.declared.position.Place.{Place}
use Rattle.awk_resolve.specs.declared.builder.Exits.{Exits}
use Rattle.awk_resolve.specs.declared.node.Operand.{Operand}
use Rattle.awk_resolve.specs.support.Builds.{NamesArray, Part, Evaluate, Execute, Extends, Builds as BuildsWith, FindsPlace as FindsPlaceWith, FindsOptionalPlace as FindsOptionalPlaceWith, FindsAnOperand, FindsEachOperand}

abbrev pub given_parameters : Option (Bor (List FormalParameter)) → List FormalParameter
given_parameters None = []
given_parameters (Some p) = p.now

-- the parameters of the function, or none outside of functions
abbrev pub parameters_of : Scope → List FormalParameter
parameters_of scope = given_parameters scope.parameters

-- a part that stands there is built
abbrev pub Builds : Scope → (old new : Builder) → (place : ℕ) → Part → Type 0
Builds scope = BuildsWith scope.kinds.now (parameters_of scope)

-- the place that an expression is there
abbrev pub FindsPlace : Scope → (old new : Builder) → Place → Expr → Type 0
FindsPlace scope = FindsPlaceWith scope.kinds.now (parameters_of scope)

abbrev pub FindsOptionalPlace : Scope → (old new : Builder) → Option Place → OptionalExpr → Type 0
FindsOptionalPlace scope = FindsOptionalPlaceWith scope.kinds.now (parameters_of scope)

-- the array that the argument of `length` is, if it is a bare name of one
abbrev pub MeasuredBy : (kinds : ProgramKinds) (parameters : List FormalParameter) → Option Array → (name : Option (List ℕ)) → Type 0
MeasuredBy kinds parameters array (Some x) = NamesArray kinds parameters array x
MeasuredBy kinds parameters array None = array ≡ None

abbrev pub Measures : Scope → Option Array → Expr → Type 0
Measures scope array e = MeasuredBy scope.kinds.now (parameters_of scope) array (bare_name e)

-- the operand that an expression is there, if it is one
abbrev pub FindsOperand : Scope → (old new : Builder) → Option Operand → Expr → Type 0
FindsOperand scope old new None e = new ≡ old
FindsOperand scope old new (Some a) e = FindsAnOperand scope.kinds.now (parameters_of scope) old new a e

-- the operands that the expressions of a list are there, if each is one; names that were read before one that is none have slots
abbrev pub FindsOperands : Scope → (old new : Builder) → Option (Vec Operand) → Exprs → Type 0
FindsOperands scope old new None es = Extends old new
FindsOperands scope old new (Some list) es = FindsEachOperand scope.kinds.now (parameters_of scope) old new list.items es

-- an expression is one node there behind what it takes off the stack, if it is built
abbrev pub LowersValue : Scope → (old new : Builder) → Option ℕ → Expr → (next : ℕ) → Type 0
LowersValue scope old new None e next = Extends old new
LowersValue scope old new (Some place) e next = Builds scope old new place (Evaluate e next)

-- an expression whose value is of no use is one node there, if it is built
abbrev pub LowersChange : Scope → (old new : Builder) → Option ℕ → Expr → Exits → Type 0
LowersChange scope old new None e exits = Extends old new
LowersChange scope old new (Some place) e exits = Builds scope old new place (Execute (Simple (Expression e)) exits)

-- a print to standard output is one node there, if it is built
abbrev pub LowersPrint : Scope → (old new : Builder) → Option ℕ → PrintForm → PrintList → Exits → Type 0
LowersPrint scope old new None form list exits = Extends old new
LowersPrint scope old new (Some place) form list exits = Builds scope old new place (Execute (Simple (Print form list Standard)) exits)
