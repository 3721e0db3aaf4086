-- A node made of limited trees is limited itself, and a list that grows is as high as its highest.
use Rattle.std.proofs.Common.{◌≡◌, ℕ, ◌≤◌, max, Bool, true, false, cond, Some, refl, arith}
use Rattle.std.proofs.lemmas.Bool.{le-leb}
use Rattle.awk_grammar.specs.definitions.Tree.{Expr, Exprs, Nil, Cons}
use Rattle.awk_grammar.specs.definitions.Height.{height_of, tallest}
use Rattle.awk_grammar.specs.support.Nodes.{limited, append}

test_true : {A : Type 0} (b : Bool) (x y : A) → b ≡ true → cond b x y ≡ x
test_true true x y h = refl
test_true false x y h = absurd (cc)

pub low : {A : Type 0} (m n : ℕ) (a : A) → n ≤ m → limited m n a ≡ Some a
low m n a h = test_true _ _ _ (le-leb n m h)

pub tallest-append : (xs : Exprs) (e : Expr) → tallest (append xs e) ≡ max (tallest xs) (height_of e)
tallest-append Nil e = omega arith
tallest-append (Cons d xs) e = omega (arith, tallest-append xs e)
