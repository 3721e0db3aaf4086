-- The children that a node keeps in a row are those of its list.
use Rattle.std.proofs.Common.{◌≡◌, refl, ap}
use Rattle.awk_grammar.specs.Tree.{Cons, Then}
use Rattle.awk_grammar.specs.View.{expr_of, exprs_of, exprs_of_row, statement_of, statements_of, statements_of_row}
use Rattle.awk_grammar.specs.declared.tree.Expr.{Row_of-Expr, end_of-Expr, more_of-Expr, items-the_row-Expr}
use Rattle.awk_grammar.specs.declared.tree.Statement.{Row_of-Statement, end_of-Statement, more_of-Statement, items-the_row-Statement}

pub row_is_list : (n : _) (all : Row_of-Expr n) → exprs_of_row all ≡ exprs_of (items-the_row-Expr n all)
row_is_list n end_of-Expr = refl
row_is_list n (more_of-Expr e rest) = ap (λ l. Cons (expr_of e) l) (row_is_list _ rest)

pub row_is_block : (n : _) (all : Row_of-Statement n) → statements_of_row all ≡ statements_of (items-the_row-Statement n all)
row_is_block n end_of-Statement = refl
row_is_block n (more_of-Statement s rest) = ap (λ l. Then (statement_of s) l) (row_is_block _ rest)
