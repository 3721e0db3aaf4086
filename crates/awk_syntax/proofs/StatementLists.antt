-- The code's lists of statements, as lists of the definitions.
use Rattle.std.proofs.Common.{◌≡◌, ℕ, ◌≤◌, max, List, [], ◌∷◌, ◌++◌, Bool, true, false, cond, Some, refl, sym, ap, ◌∙◌, arith}
use Rattle.std.proofs.lemmas.Bool.{le-leb}
use Rattle.awk_grammar.specs.definitions.Tree as t
use Rattle.awk_grammar.specs.definitions.Tree.{Statement as Node, Statements, NoMore, Then}
use Rattle.awk_grammar.specs.definitions.Height.{max_height, height_of_statement, tallest_of}
use Rattle.awk_grammar.specs.definitions.View.{statement_of, statements_of, statements_of_row}
use Rattle.awk_grammar.specs.support.Nodes.{limited, over_two, push}
use Rattle.awk_grammar.specs.declared.tree.Statement.{Statement, Row_of-Statement, end_of-Statement, more_of-Statement, items-the_row-Statement}

test_true : {A : Type 0} (b : Bool) (x y : A) → b ≡ true → cond b x y ≡ x
test_true true x y h = refl
test_true false x y h = absurd (cc)

within : {A : Type 0} (m n : ℕ) (a : A) → n ≤ m → limited m n a ≡ Some a
within m n a h = test_true _ _ _ (le-leb n m h)

-- the statements that a block keeps
pub statements_of_row-items : (n : _) (k : Row_of-Statement n) → statements_of_row k ≡ statements_of (items-the_row-Statement n k)
statements_of_row-items n end_of-Statement = refl
statements_of_row-items n (more_of-Statement x rest) = ap (λ z. t.Then (statement_of x) z) (statements_of_row-items _ rest)

statements_of-snoc : (xs : List Statement) (x : Statement) → statements_of (xs ++ x ∷ []) ≡ push (statements_of xs) (statement_of x)
statements_of-snoc [] x = refl
statements_of-snoc (y ∷ xs) x = ap (t.Then (statement_of y)) (statements_of-snoc xs x)

-- a list that grows is as high as its highest
tallest_of-push : (all : Statements) (x : Node) → tallest_of (push all x) ≡ max (tallest_of all) (height_of_statement x)
tallest_of-push NoMore x = omega arith
tallest_of-push (Then y all) x = omega (arith, tallest_of-push all x)

pub statements_counted : (xs ys : List Statement) (x : Statement) (h i : ℕ) → ys ≡ xs ++ x ∷ [] → h ≡ tallest_of (statements_of xs) → i ≡ height_of_statement (statement_of x) → tallest_of (statements_of ys) ≡ max h i
statements_counted xs ys x h i p q r = ap (λ z. tallest_of (statements_of z)) p ∙ ap tallest_of (statements_of-snoc xs x) ∙ tallest_of-push (statements_of xs) (statement_of x) ∙ omega arith

pub statements_checked : (xs ys : List Statement) (x : Statement) → ys ≡ xs ++ x ∷ [] → tallest_of (statements_of xs) ≤ max_height → height_of_statement (statement_of x) ≤ max_height → Some (statements_of ys) ≡ over_two max_height tallest_of push (Some (statements_of xs)) (Some (statement_of x))
statements_checked xs ys x p h i =
    let s = tallest_of-push (statements_of xs) (statement_of x) in
    ap (λ z. Some (statements_of z)) p ∙ ap (λ z. Some z) (statements_of-snoc xs x) ∙ sym (within max_height (tallest_of (push (statements_of xs) (statement_of x))) (push (statements_of xs) (statement_of x)) (omega arith))
