-- What `sub` and `gsub` exchange that take nothing off the stack.
use Rattle.std.specs.Prelude.{◌≡◌, ℕ, Bool, List, Option, Some, None}
use Rattle.awk_value.specs.declared.value.Value.TheVariants as value
use Rattle.awk_grammar.specs.Tree.{Expr, BuiltIn, Exprs}
use Rattle.awk_kinds.specs.definitions.Kinds.{FormalParameter}
use Rattle.awk_kinds.specs.definitions.Signatures.{ProgramKinds}
use Rattle.awk_semantics.specs.definitions.State.{State}
use Rattle.awk_semantics.specs.definitions.Semantics.{eval}
use Rattle.awk_storage.specs.declared.position.Variable.{Variable}
use Rattle.awk_resolve.specs.declared.builder.Builder.{Builder}
use Rattle.awk_resolve.specs.declared.node.Exchange.{Exchange}
use Rattle.awk_resolve.specs.declared.scope.Scope.{Scope}
use Rattle.awk_resolve.specs.support.Nodes.{substitute_in}
use Rattle.awk_resolve.specs.support.Builds.{Grows, AddsEre, Extends, IsIn, Program}
use Rattle.awk_resolve.specs.support.Operands.{substitution}
use Rattle.awk_resolve.specs.support.Scopes.{parameters_of}

-- an exchange by this ERE, which gets a number, with this string
pub record FindsExchangeBy (old new : Builder) (all : Bool) (ere replacement : List ℕ) (variable : Option Variable) (exchange : Exchange) : Type 0 where
  pub number : ℕ
  pub adds : AddsEre old new number ere
  pub is : exchange ≡ record { all = all; ere = number; replacement = value.Text replacement; variable = variable }

-- an exchange is what an expression is, now and later
pub record IsExchangeOf (kinds : ProgramKinds) (parameters : List FormalParameter) (b : Builder) (x : Exchange) (e : Expr) : Type 0 where
  pub is : (p : Program kinds) → Grows b p.all → (n : ℕ) (s : State) → IsIn p.tables parameters n s → substitute_in p.tables x.all x.ere x.replacement x.variable s ≡ eval p.functions e s

pub record FindsAnExchange (kinds : ProgramKinds) (parameters : List FormalParameter) (old new : Builder) (x : Exchange) (e : Expr) : Type 0 where
  pub extends : Extends old new
  pub is : IsExchangeOf kinds parameters new x e

-- the exchange that a call of `sub` or `gsub` is there, if it is one
abbrev pub FindsExchange : Scope → (old new : Builder) → Option Exchange → (all : Bool) → Exprs → Type 0
FindsExchange scope old new None all es = Extends old new
FindsExchange scope old new (Some x) all es = FindsAnExchange scope.kinds.now (parameters_of scope) old new x (BuiltIn (substitution all) es)
