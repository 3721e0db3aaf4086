-- The code's lists, as lists of the definitions.
use Rattle.std.proofs.Common.{◌≡◌, ℕ, ◌≤◌, max, List, [], ◌∷◌, ◌++◌, Some, refl, sym, ap, ◌∙◌, arith}
use Rattle.awk_grammar.specs.definitions.Tree as t
use Rattle.awk_grammar.specs.definitions.Height.{max_height, height_of, tallest}
use Rattle.awk_grammar.specs.definitions.View.{expr_of, exprs_of, exprs_of_row}
use Rattle.awk_grammar.specs.support.Nodes.{over_two, append}
use Rattle.awk_grammar.specs.declared.tree.Expr.{Expr, Row_of-Expr, end_of-Expr, more_of-Expr, items-the_row-Expr}
use Rattle.awk_frames.proofs.LimitedNodes.{low, tallest-append}

pub exprs_of-snoc : (xs : List Expr) (e : Expr) → exprs_of (xs ++ e ∷ []) ≡ append (exprs_of xs) (expr_of e)
exprs_of-snoc [] e = refl
exprs_of-snoc (d ∷ xs) e = ap (t.Cons (expr_of d)) (exprs_of-snoc xs e)

-- one expression more: its list and its height
pub exprs_counted : (xs ys : List Expr) (e : Expr) (h i : ℕ) → ys ≡ xs ++ e ∷ [] → h ≡ tallest (exprs_of xs) → i ≡ height_of (expr_of e) → tallest (exprs_of ys) ≡ max h i
exprs_counted xs ys e h i p q r = ap (λ z. tallest (exprs_of z)) p ∙ ap tallest (exprs_of-snoc xs e) ∙ tallest-append (exprs_of xs) (expr_of e) ∙ omega arith

pub exprs_checked : (xs ys : List Expr) (e : Expr) → ys ≡ xs ++ e ∷ [] → tallest (exprs_of xs) ≤ max_height → height_of (expr_of e) ≤ max_height → Some (exprs_of ys) ≡ over_two max_height tallest append (Some (exprs_of xs)) (Some (expr_of e))
exprs_checked xs ys e p h i =
    let s = tallest-append (exprs_of xs) (expr_of e) in
    ap (λ z. Some (exprs_of z)) p ∙ ap (λ z. Some z) (exprs_of-snoc xs e) ∙ sym (low max_height (tallest (append (exprs_of xs) (expr_of e))) (append (exprs_of xs) (expr_of e)) (omega arith))

-- the expressions that a node keeps
pub exprs_of_row-items : (n : _) (k : Row_of-Expr n) → exprs_of_row k ≡ exprs_of (items-the_row-Expr n k)
exprs_of_row-items n end_of-Expr = refl
exprs_of_row-items n (more_of-Expr x rest) = ap (λ z. t.Cons (expr_of x) z) (exprs_of_row-items _ rest)
