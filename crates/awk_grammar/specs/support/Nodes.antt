-- Nodes made of what is kept of their children: none where a child or the node is too high. Lists grow at their ends.
use Rattle.std.specs.Prelude.{ℕ, nat_le, List, Option, Some, None, ◌++◌, ◌∷◌, [], if◌then◌else◌}
use Rattle.awk_grammar.specs.definitions.Tree.{Expr, Exprs, Nil, Cons, Statement, Statements, NoMore, Then, Item}

-- a tree of height n, or none above the limit
abbrev pub limited : {A : Type 0} → (m n : ℕ) → A → Option A
limited m n x = if nat_le n m then Some x else None

-- a node over one tree, and over more; h is the height of the node
abbrev pub over_one : {A B : Type 0} → ℕ → (B → ℕ) → (A → B) → Option A → Option B
over_one m h f None = None
over_one m h f (Some x) = limited m (h (f x)) (f x)

abbrev pub over_two : {A B C : Type 0} → ℕ → (C → ℕ) → (A → B → C) → Option A → Option B → Option C
over_two m h f None y = None
over_two m h f (Some x) None = None
over_two m h f (Some x) (Some y) = limited m (h (f x y)) (f x y)

abbrev pub over_three : {A B C D : Type 0} → ℕ → (D → ℕ) → (A → B → C → D) → Option A → Option B → Option C → Option D
over_three m h f None y z = None
over_three m h f (Some x) None z = None
over_three m h f (Some x) (Some y) None = None
over_three m h f (Some x) (Some y) (Some z) = limited m (h (f x y z)) (f x y z)

abbrev pub over_four : {A B C D E : Type 0} → ℕ → (E → ℕ) → (A → B → C → D → E) → Option A → Option B → Option C → Option D → Option E
over_four m h f None y z v = None
over_four m h f (Some x) y z v = over_three m h (f x) y z v

abbrev pub append : Exprs → Expr → Exprs
append Nil e = Cons e Nil
append (Cons d xs) e = Cons d (append xs e)

abbrev pub push : Statements → Statement → Statements
push NoMore x = Then x NoMore
push (Then y all) x = Then y (push all x)

abbrev pub add : List Item → Item → List Item
add xs x = xs ++ (x ∷ [])
