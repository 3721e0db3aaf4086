-- What is pushed for operators and operands.
use Rattle.std.specs.Prelude.{◌≡◌, ℕ, pos, Bool, true, false, not, ◌&&◌, is_none, List, Option, Some, None}
use Rattle.awk_value.specs.declared.value.Value.TheVariants as value
use Rattle.awk_lex.specs.declared.token.BuiltIn.{BuiltIn}
use Rattle.awk_lex.specs.declared.token.BuiltIn.TheVariants as built_in
use Rattle.awk_lex.specs.declared.token.AssignmentOperator.{AssignmentOperator}
use Rattle.awk_lex.specs.declared.token.AssignmentOperator.TheVariants as assignment
use Rattle.awk_lex.specs.declared.token.IncrementOperator.{IncrementOperator}
use Rattle.awk_lex.specs.declared.token.IncrementOperator.TheVariants.{Increment, Decrement}
use Rattle.awk_lex.specs.declared.token.Operator.{Operator}
use Rattle.awk_lex.specs.declared.token.Operator.TheVariants.{Matches, NotMatches, And, Or}
use Rattle.awk_grammar.specs.declared.tree.UnaryOperator.{UnaryOperator}
use Rattle.awk_grammar.specs.declared.tree.UnaryOperator.TheVariants as unary
use Rattle.awk_grammar.specs.declared.tree.BinaryOperator.{BinaryOperator}
use Rattle.awk_grammar.specs.declared.tree.BinaryOperator.TheVariants.{Infix}
use Rattle.awk_grammar.specs.Tree.{Expr, Ere, OptionalExpr, NoExpr, AnExpr}
use Rattle.awk_resolve.specs.declared.node.OutsideCall.TheVariants as outside
use Rattle.awk_resolve.specs.declared.node.Operand.TheVariants as operand
use Rattle.awk_resolve.specs.declared.node.Source.{Source}
use Rattle.awk_resolve.specs.declared.node.Source.TheVariants as source
use Rattle.awk_resolve.specs.declared.node.SplitBy.{SplitBy}
use Rattle.awk_resolve.specs.declared.node.SplitBy.TheVariants as by
use Rattle.awk_resolve.specs.declared.node.ValueNode.{ValueNode}
use Rattle.awk_resolve.specs.declared.node.ValueNode.TheVariants as v
use Rattle.awk_resolve.specs.declared.node.Node.TheVariants as n
use Rattle.awk_resolve.specs.declared.builder.Builder.{Builder}
use Rattle.awk_resolve.specs.support.Builds.{Pushes, AddsEre}

abbrev pub is_not : UnaryOperator → Bool
is_not unary.Not = true
is_not o = false

abbrev pub is_and : BinaryOperator → Bool
is_and (Infix And) = true
is_and o = false

abbrev pub is_or : BinaryOperator → Bool
is_or (Infix Or) = true
is_or o = false

abbrev pub matching_operator : BinaryOperator → Option Operator
matching_operator (Infix Matches) = Some Matches
matching_operator (Infix NotMatches) = Some NotMatches
matching_operator o = None

abbrev pub is_strict : BinaryOperator → Bool
is_strict o = not (is_and o) && (not (is_or o) && is_none (matching_operator o))

-- the operator that assigns what `++` or `--` makes
abbrev pub assigned_by_one : IncrementOperator → AssignmentOperator
assigned_by_one Increment = assignment.Add
assigned_by_one Decrement = assignment.Subtract

abbrev pub matching : Operator → Option ℕ → ValueNode
matching o (Some i) = v.MatchesEre o i
matching o None = v.Operate (Infix o)

-- 1 and 0 are put on the stack
pub record PushesTruths (old new : Builder) (yes no next : ℕ) : Type 0 where
  pub between : Builder
  pub first : Pushes old between (n.Value (v.Put (operand.Constant (value.Number (pos 1)))) next) yes
  pub second : Pushes between new (n.Value (v.Put (operand.Constant (value.Number (pos 0)))) next) no

-- a node with the number of an ERE
pub record PushesEre (old new : Builder) (node : ℕ → ValueNode) (text : List ℕ) (place next : ℕ) : Type 0 where
  pub between : Builder
  pub number : ℕ
  pub adds : AddsEre old between number text
  pub pushes : Pushes between new (n.Value (node number) next) place

-- the number of the ERE that an expression is, or none of another expression
pub record FindsEre (old new : Builder) (number : ℕ) (e : Expr) : Type 0 where
  pub text : List ℕ
  pub is : e ≡ Ere text
  pub adds : AddsEre old new number text

pub record FindsNoEre (old new : Builder) (e : Expr) : Type 0 where
  pub same : new ≡ old
  pub not_ere : (text : List ℕ) → e ≡ Ere text → ⊥

abbrev pub FindsPattern : (old new : Builder) → Option ℕ → Expr → Type 0
FindsPattern old new (Some i) e = FindsEre old new i e
FindsPattern old new None e = FindsNoEre old new e

abbrev pub source_of : OptionalExpr → Source
source_of NoExpr = source.Main
source_of (AnExpr e) = source.File

abbrev pub split_by : Option ℕ → SplitBy
split_by (Some i) = by.Ere i
split_by None = by.Value

abbrev pub takes_one : BuiltIn → Bool
takes_one built_in.Close = true
takes_one built_in.System = true
takes_one f = false

abbrev pub reads_in_place : BuiltIn → Bool
reads_in_place built_in.Substr = true
reads_in_place built_in.Index = true
reads_in_place f = false

abbrev pub strict_node : BuiltIn → ℕ → ValueNode
strict_node built_in.Close k = v.Outside outside.Close
strict_node built_in.System k = v.Outside outside.System
strict_node f k = v.Apply f k

abbrev pub substitution : Bool → BuiltIn
substitution true = built_in.Gsub
substitution false = built_in.Sub
