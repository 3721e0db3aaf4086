-- Targets and keys that expressions are.
use Rattle.std.specs.Prelude.{◌≡◌, ℕ, true, List, Option, Some, None}
use Rattle.awk_grammar.specs.declared.tree.BinaryOperator.TheVariants.{Concatenate}
use Rattle.awk_grammar.specs.Tree.{Expr, Name, Element, Binary, Exprs, Nil, Cons}
use Rattle.awk_kinds.specs.definitions.Kinds.{FormalParameter}
use Rattle.awk_kinds.specs.definitions.Signatures.{ProgramKinds}
use Rattle.awk_storage.specs.declared.position.Variable.{Variable}
use Rattle.awk_storage.specs.declared.position.Array.{Array}
use Rattle.awk_resolve.specs.declared.builder.Builder.{Builder}
use Rattle.awk_resolve.specs.declared.node.Operand.{Operand}
use Rattle.awk_resolve.specs.declared.node.Key.{Key}
use Rattle.awk_resolve.specs.declared.node.Key.TheVariants as key
use Rattle.awk_resolve.specs.declared.node.Target.{Target}
use Rattle.awk_resolve.specs.declared.node.Target.TheVariants as target
use Rattle.awk_resolve.specs.declared.scope.Scope.{Scope}
use Rattle.awk_resolve.specs.support.Builds.{Extends, IsVariableOf, IsArrayOf, IsOperandOf, AreOperandsOf}
use Rattle.awk_resolve.specs.support.Parts.{is_concatenation, parts_of}
use Rattle.awk_resolve.specs.support.Scopes.{parameters_of}

-- the part that a concatenation begins with; any other expression is it
abbrev pub first_part : Expr → Expr
first_part (Binary Concatenate a b) = first_part a
first_part e = e

-- a key is what subscripts are: one alone, which is an operand or a concatenation of operands

pub record IsOneKey (kinds : ProgramKinds) (parameters : List FormalParameter) (b : Builder) (operand : Operand) (es : Exprs) : Type 0 where
  pub subscript : Expr
  pub is : es ≡ Cons subscript Nil
  pub stands : IsOperandOf kinds parameters b operand subscript

pub record IsJoinedKey (kinds : ProgramKinds) (parameters : List FormalParameter) (b : Builder) (list : List Operand) (es : Exprs) : Type 0 where
  pub subscript : Expr
  pub is : es ≡ Cons subscript Nil
  pub joined : is_concatenation subscript ≡ true
  pub stand : AreOperandsOf kinds parameters b list (parts_of subscript)

abbrev pub IsKeyOf : (kinds : ProgramKinds) (parameters : List FormalParameter) (b : Builder) → Key → Exprs → Type 0
IsKeyOf kinds parameters b (key.At operand) es = IsOneKey kinds parameters b operand es
IsKeyOf kinds parameters b (key.Joined list) es = IsJoinedKey kinds parameters b list.items es

pub record FindsAKey (kinds : ProgramKinds) (parameters : List FormalParameter) (old new : Builder) (k : Key) (es : Exprs) : Type 0 where
  pub extends : Extends old new
  pub is : IsKeyOf kinds parameters new k es

-- the key that subscripts are there, if they are one
abbrev pub FindsKey : Scope → (old new : Builder) → Option Key → Exprs → Type 0
FindsKey scope old new None es = Extends old new
FindsKey scope old new (Some k) es = FindsAKey scope.kinds.now (parameters_of scope) old new k es

-- a target is what an expression is: a variable, or the element of an array at a key
pub record IsVariableTarget (kinds : ProgramKinds) (parameters : List FormalParameter) (b : Builder) (v : Variable) (e : Expr) : Type 0 where
  pub name : List ℕ
  pub is : e ≡ Name name
  pub variable : IsVariableOf kinds parameters b v name

pub record IsElementTarget (kinds : ProgramKinds) (parameters : List FormalParameter) (b : Builder) (a : Array) (k : Key) (e : Expr) : Type 0 where
  pub name : List ℕ
  pub subscripts : Exprs
  pub is : e ≡ Element name subscripts
  pub array : IsArrayOf kinds parameters a name
  pub key : IsKeyOf kinds parameters b k subscripts

abbrev pub IsTargetOf : (kinds : ProgramKinds) (parameters : List FormalParameter) (b : Builder) → Target → Expr → Type 0
IsTargetOf kinds parameters b (target.Variable v) e = IsVariableTarget kinds parameters b v e
IsTargetOf kinds parameters b (target.Element a k) e = IsElementTarget kinds parameters b a k e

pub record FindsATarget (kinds : ProgramKinds) (parameters : List FormalParameter) (old new : Builder) (t : Target) (e : Expr) : Type 0 where
  pub extends : Extends old new
  pub is : IsTargetOf kinds parameters new t e

-- the target that an expression is there, if it is one
abbrev pub FindsTarget : Scope → (old new : Builder) → Option Target → Expr → Type 0
FindsTarget scope old new None e = Extends old new
FindsTarget scope old new (Some t) e = FindsATarget scope.kinds.now (parameters_of scope) old new t e
