-- Rows with stamps: sorted, mapped and joined.
use Rattle.std.proofs.Common.{◌≡◌, ℕ, zero, suc, ◌+◌, ◌<◌, ◌≤◌, Bool, true, false, nat_eq, nat_lt, List, [], ◌∷◌, ◌++◌, map, length, get_or, refl, sym, ap, ◌∙◌, append_assoc, arith}
use Rattle.std.specs.List.{IsAllAdjacentAnswer}
use Rattle.std.specs.List.Sorted.{IsNonDecreasingBy}
use Rattle.std.specs.Prelude.{Result, Ok, Err, OnOk, IfOk}
use Rattle.std.specs.Global.{Vec}
use Rattle.std.proofs.lemmas.Bool.Decides.{nat_tests}

-- adjacent numbers that rise, rise
pub rises : {X : Type 0} (n : X → ℕ) (xs : List X)
    → ((k : ℕ) (d : X) → k + 1 < length xs → n (get_or xs k d) ≤ n (get_or xs (k + 1) d)) → IsNonDecreasingBy n xs
rises n xs h i zero d a b =
    let e : i ≡ 0 = omega arith in
    let s : n (get_or xs i d) ≡ n (get_or xs 0 d) = ap (λ j. n (get_or xs j d)) e in
    omega arith
rises {X} n xs h i (suc m) d a b = by (λ l. rises n xs h i m d l (omega arith)) (nat_eq i (suc m)) refl
  where
    up : suc m ≡ m + 1
    up = omega arith

    by : (i ≤ m → n (get_or xs i d) ≤ n (get_or xs m d)) → (c : Bool) → nat_eq i (suc m) ≡ c
        → n (get_or xs i d) ≤ n (get_or xs (suc m) d)
    by ih true p =
        let e : i ≡ suc m = grind (arith, nat_tests) in
        let s : n (get_or xs i d) ≡ n (get_or xs (suc m) d) = ap (λ j. n (get_or xs j d)) e in
        omega arith
    by ih false p =
        let e : i ≡ suc m → ⊥ = λ x. grind (arith, nat_tests) in
        let l : i ≤ m = omega arith in
        let before = ih l in
        let step : n (get_or xs m d) ≤ n (get_or xs (m + 1) d) = h m d (omega arith) in
        let s : n (get_or xs (m + 1) d) ≡ n (get_or xs (suc m) d) = ap (λ j. n (get_or xs j d)) (sym up) in
        omega arith

le_from_lt : (x y : ℕ) → true ≡ nat_lt x y → x ≤ y
le_from_lt x y h = grind (arith, nat_tests)

pub rises_by : {X : Type 0} (n : X → ℕ) (xs : List X) (r : Bool) → r ≡ true
    → IsAllAdjacentAnswer (λ x y b. b ≡ nat_lt (n x) (n y)) xs r → IsNonDecreasingBy n xs
rises_by n xs true e h = rises n xs (λ k d l. le_from_lt (n (get_or xs k d)) (n (get_or xs (k + 1) d)) (h k d l))
rises_by n xs false e h = absurd (let f : true ≡ false = sym e in cc)

pub on_ok_map : {R E : Type 0} (r : Result R E) (P Q : Type 0) → OnOk r P → (P → Q) → OnOk r Q
on_ok_map (Ok v) P Q h f = f h
on_ok_map (Err e) P Q h f = tt

pub map-twice : {X Y Z : Type 0} (g : Y → Z) (f : X → Y) (xs : List X) → map g (map f xs) ≡ map (λ x. g (f x)) xs
map-twice g f [] = refl
map-twice g f (x ∷ xs) = ap (λ l. g (f x) ∷ l) (map-twice g f xs)

pub map-both : {X Y : Type 0} (f : X → Y) (xs ys : List X) → map f (xs ++ ys) ≡ map f xs ++ map f ys
map-both f [] ys = refl
map-both f (x ∷ xs) ys = ap (λ l. f x ∷ l) (map-both f xs ys)

-- three lists, one after the other
pub joined-3 : {X : Type 0} (a b c z x y w : List X) → a ≡ b ++ y → b ≡ c ++ x → c ≡ z ++ w → z ≡ [] → a ≡ (w ++ x) ++ y
joined-3 a b c z x y w e f g h = e ∙ ap (λ l. l ++ y) (f ∙ ap (λ l. l ++ x) (g ∙ ap (λ l. l ++ w) h))

pub map-push : {X Y : Type 0} (f : X → Y) (xs : List X) (x : X) → map f (xs ++ x ∷ []) ≡ map f xs ++ f x ∷ []
map-push f [] x = refl
map-push f (y ∷ ys) x = ap (λ l. f y ∷ l) (map-push f ys x)

-- what is made of one item more
pub one_more : {X Y : Type 0} (f : X → Y) (all here old : List Y) (xs : List X) (x : X) → here ≡ old ++ map f xs
    → all ≡ here ++ f x ∷ [] → all ≡ old ++ map f (xs ++ x ∷ [])
one_more f all here old xs x h e =
    e ∙ ap (λ l. l ++ f x ∷ []) h ∙ append_assoc old (map f xs) (f x ∷ []) ∙ ap (λ l. old ++ l) (sym (map-push f xs x))

-- what is made of all items, which came as references to them
pub of_all : {X Y Z : Type 0} (f : Y → Z) (g : X → Y) (all old : List Z) (xs : List X) (ys : List Y)
    → all ≡ old ++ map (λ x. f (g x)) xs → map g xs ≡ ys → all ≡ old ++ map f ys
of_all f g all old xs ys h e = h ∙ ap (λ l. old ++ l) (sym (map-twice f g xs) ∙ ap (map f) e)

pub if_ok_same : {X E : Type 0} {xs ys : List X} (r : Result (Vec X) E) → IfOk r (λ v. v.items ≡ xs) → xs ≡ ys → IfOk r (λ v. v.items ≡ ys)
if_ok_same (Ok v) h e = h ∙ e
if_ok_same (Err x) h e = tt
