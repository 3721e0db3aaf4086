-- The parts of a concatenation.
use Rattle.std.specs.Prelude.{Bool, true, false}
use Rattle.awk_grammar.specs.declared.tree.BinaryOperator.TheVariants.{Concatenate}
use Rattle.awk_grammar.specs.Tree.{Expr, Binary, Exprs, Nil, Cons}

abbrev pub is_concatenation : Expr → Bool
is_concatenation (Binary Concatenate a b) = true
is_concatenation e = false

-- a list with one expression more
abbrev pub with_last : Exprs → Expr → Exprs
with_last Nil e = Cons e Nil
with_last (Cons first rest) e = Cons first (with_last rest e)

-- those of the left operand, which may be a concatenation too, and the right one
abbrev pub parts_of : Expr → Exprs
parts_of (Binary Concatenate a b) = with_last (parts_of a) b
parts_of e = Cons e Nil

-- those behind the first
abbrev pub parts_behind : Expr → Exprs
parts_behind (Binary Concatenate a b) = with_last (parts_behind a) b
parts_behind e = Nil
