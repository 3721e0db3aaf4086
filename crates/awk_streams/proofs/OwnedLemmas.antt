-- What stands open in a log is the main input or a named stream.
use Rattle.std.proofs.Common.{◌≡◌, ◌≢◌, inl, inr, ℕ, ℤ, Bool, true, false, List, [], ◌∷◌, ◌++◌, Option, Some, None, refl, sym, ◌∙◌, ap}
use Rattle.std.specs.Prelude.{◌==◌, ◌||◌}
use Rattle.std.proofs.lemmas.Bool.{cond-true, cond-false, ne_eqb, eq-eqb, cases_eq}
use Rattle.awk_world.specs.definitions.Log.{Event, Closed}
use Rattle.awk_world.specs.definitions.Oracle.{standing}
use Rattle.awk_streams.specs.declared.input.Input.{Input}
use Rattle.awk_streams.specs.declared.named.NamedStream.{NamedStream}
use Rattle.awk_streams.specs.definitions.Named as words
use Rattle.awk_streams.specs.definitions.Streams.{number_of, numbered, is_of_main, is_of_named}
use Rattle.awk_streams.specs.definitions.MainInput.{closed_main}

true_false : {P : Type 0} → true ≡ false → P
true_false e = cc

neither : (x y : Bool) → (x || y) ≡ false → (x ≡ false) × (y ≡ false)
neither true y e = true_false e
neither false y e = (refl, e)

or_false : (x y : Bool) → x ≡ false → y ≡ false → (x || y) ≡ false
or_false true y e f = true_false e
or_false false y e f = f

-- a number that isn't this one
pub is_other : (i id : ℕ) → (i == id) ≡ false → id ≢ i
is_other i id e = λ (same : id ≡ i). true_false (sym (eq-eqb i id (sym same)) ∙ e)

-- the numbers alone tell

abbrev is_of_numbered : ℕ → List (words.Named × ℕ) → Bool
is_of_numbered id [] = false
is_of_numbered id (x ∷ xs) = x.1 == id || is_of_numbered id xs

by_numbers : (id : ℕ) (xs : List NamedStream) → is_of_named id xs ≡ is_of_numbered id (numbered xs)
by_numbers id [] = refl
by_numbers id (x ∷ xs) = ap (λ b. number_of x == id || b) (by_numbers id xs)

pub of_named_by : (id : ℕ) (xs ys : List NamedStream) → numbered ys ≡ numbered xs → is_of_named id ys ≡ false → is_of_named id xs ≡ false
of_named_by id xs ys same none = by_numbers id xs ∙ (ap (is_of_numbered id) (sym same) ∙ (sym (by_numbers id ys) ∙ none))

pub of_main_by : (id : ℕ) (main main' : Option Input) → main' ≡ main → is_of_main id main' ≡ false → is_of_main id main ≡ false
of_main_by id main main' same none = ap (is_of_main id) (sym same) ∙ none

-- one more stream, and one less

pub of_first : (id : ℕ) (xs : List NamedStream) (x : NamedStream) → is_of_named id (xs ++ x ∷ []) ≡ false → is_of_named id xs ≡ false
of_first id [] x e = refl
of_first id (y ∷ ys) x e =
    let parts = neither (number_of y == id) (is_of_named id (ys ++ x ∷ [])) e in
    or_false (number_of y == id) (is_of_named id ys) parts.0 (of_first id ys x parts.1)

pub of_last : (id : ℕ) (xs : List NamedStream) (x : NamedStream) → is_of_named id (xs ++ x ∷ []) ≡ false → (number_of x == id) ≡ false
of_last id [] x e = (neither (number_of x == id) false e).0
of_last id (y ∷ ys) x e = of_last id ys x (neither (number_of y == id) (is_of_named id (ys ++ x ∷ [])) e).1

pub of_without : (id : ℕ) (front back : List NamedStream) (x : NamedStream) → (number_of x == id) ≡ false → is_of_named id (front ++ back) ≡ false → is_of_named id (front ++ x ∷ back) ≡ false
of_without id [] back x other e = or_false (number_of x == id) (is_of_named id back) other e
of_without id (y ∷ front) back x other e =
    let parts = neither (number_of y == id) (is_of_named id (front ++ back)) e in
    or_false (number_of y == id) (is_of_named id (front ++ x ∷ back)) parts.0 (of_without id front back x other parts.1)

-- a closing

pub closed_none : (i id : ℕ) (n : ℤ) (log : List Event) → ((i == id) ≡ false → standing id log ≡ None) → standing id (Closed i n ∷ log) ≡ None
closed_none i id n log none = elim (cases_eq i id) [
  | inl same ↦ cond-true _ _ _ (eq-eqb i id same)
  | inr differs ↦ cond-false _ _ _ (ne_eqb i id differs) ∙ none (ne_eqb i id differs)
]

pub closed_main_none : (main : Option Input) (id : ℕ) (n : ℤ) (log : List Event) → (is_of_main id main ≡ false → standing id log ≡ None) → standing id (closed_main main n log) ≡ None
closed_main_none None id n log none = none refl
closed_main_none (Some input) id n log none = closed_none input.id id n log none
