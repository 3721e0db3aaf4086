-- Assignments that append to a variable.
use Rattle.std.specs.Prelude.{◌≡◌, ℕ, Bool, true, false, List, bytes_eq}
use Rattle.awk_lex.specs.declared.token.AssignmentOperator.{AssignmentOperator}
use Rattle.awk_lex.specs.declared.token.AssignmentOperator.TheVariants.{Plain}
use Rattle.awk_grammar.specs.declared.tree.BinaryOperator.TheVariants.{Concatenate}
use Rattle.awk_grammar.specs.Tree.{Expr, Name, Binary}

-- an expression is this name, or a concatenation that begins with it
abbrev pub begins_with : List ℕ → Expr → Bool
begins_with x (Name y) = bytes_eq y x
begins_with x (Binary Concatenate a b) = begins_with x a
begins_with x e = false

-- a concatenation that begins with a name is assigned to this name
abbrev pub is_append : AssignmentOperator → (place e : Expr) → Bool
is_append Plain (Name x) (Binary Concatenate a b) = begins_with x a
is_append o place e = false

-- an assignment appends to the variable of this name
pub record AppendsTo (o : AssignmentOperator) (place e : Expr) (x : List ℕ) : Type 0 where
  pub operator : o ≡ Plain
  pub named : place ≡ Name x
  pub begins : is_append Plain (Name x) e ≡ true

-- a concatenation of two operands without the one that it begins with
abbrev pub behind_first : (left right : Expr) → Expr
behind_first (Binary Concatenate a b) e = Binary Concatenate (behind_first a b) e
behind_first left e = e

abbrev pub without_first : Expr → Expr
without_first (Binary Concatenate a b) = behind_first a b
without_first e = e
