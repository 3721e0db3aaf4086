-- The code's lists of items, as lists of the definitions.
use Rattle.std.proofs.Common.{◌≡◌, ℕ, ◌≤◌, max, List, [], ◌∷◌, ◌++◌, Bool, true, false, cond, Some, refl, sym, ap, ◌∙◌, arith}
use Rattle.std.proofs.lemmas.Bool.{le-leb}
use Rattle.awk_grammar.specs.definitions.Tree.{Item as ItemNode}
use Rattle.awk_grammar.specs.definitions.Height.{max_height, height_of_item, height_of_program}
use Rattle.awk_grammar.specs.definitions.View.{item_of, items_of}
use Rattle.awk_grammar.specs.support.Nodes.{limited, over_two, add}
use Rattle.awk_grammar.specs.declared.tree.Item.{Item}

test_true : {A : Type 0} (b : Bool) (x y : A) → b ≡ true → cond b x y ≡ x
test_true true x y h = refl
test_true false x y h = absurd (cc)

within : {A : Type 0} (m n : ℕ) (a : A) → n ≤ m → limited m n a ≡ Some a
within m n a h = test_true _ _ _ (le-leb n m h)

items_of-snoc : (xs : List Item) (x : Item) → items_of (xs ++ x ∷ []) ≡ add (items_of xs) (item_of x)
items_of-snoc [] x = refl
items_of-snoc (y ∷ xs) x = ap (λ z. item_of y ∷ z) (items_of-snoc xs x)

height_of_program-add : (xs : List ItemNode) (x : ItemNode) → height_of_program (add xs x) ≡ max (height_of_program xs) (height_of_item x)
height_of_program-add [] x = omega arith
height_of_program-add (y ∷ xs) x = omega (arith, height_of_program-add xs x)

pub items_low : (xs ys : List Item) (x : Item) → ys ≡ xs ++ x ∷ [] → height_of_program (items_of xs) ≤ max_height → height_of_item (item_of x) ≤ max_height → height_of_program (items_of ys) ≤ max_height
items_low xs ys x p h i =
    let s = height_of_program-add (items_of xs) (item_of x) in
    let e : height_of_program (items_of ys) ≡ height_of_program (add (items_of xs) (item_of x)) = ap (λ z. height_of_program (items_of z)) p ∙ ap height_of_program (items_of-snoc xs x) in
    omega arith

pub items_checked : (xs ys : List Item) (x : Item) → ys ≡ xs ++ x ∷ [] → height_of_program (items_of xs) ≤ max_height → height_of_item (item_of x) ≤ max_height → Some (items_of ys) ≡ over_two max_height height_of_program add (Some (items_of xs)) (Some (item_of x))
items_checked xs ys x p h i =
    let s = height_of_program-add (items_of xs) (item_of x) in
    ap (λ z. Some (items_of z)) p ∙ ap (λ z. Some z) (items_of-snoc xs x) ∙ sym (within max_height (height_of_program (add (items_of xs) (item_of x))) (add (items_of xs) (item_of x)) (omega arith))
