-- Arrays by number: the first ones of a list, and empty ones behind them.
use Rattle.std.proofs.Common.{◌≡◌, ◌+◌, ◌<◌, ◌≤◌, ℕ, zero, suc, List, [], ◌∷◌, ◌++◌, length, take, drop, set, get_or, refl, sym, ap, ◌∙◌, subst, arith, length-append}
use Rattle.std.proofs.lemmas.List.{get_or-take, drop-set, set-get_or, take_all, take_more}
use Rattle.std.proofs.lemmas.Option.{unwrap_or-slice_get}
use Rattle.awk_value.specs.Arrays.{Array}
use Rattle.awk_storage.specs.support.Tables.{array_of, AreEmpty}
use Rattle.awk_storage.proofs.ItemLemmas.{take-set}

-- one that is there, and one that is left as it was

pub there : (tables : List Array) (live n : ℕ) (old : Array) → n < live → old ≡ get_or tables n [] → old ≡ array_of (take live tables) n
there tables live n old low at = at ∙ (sym (get_or-take live tables n [] low) ∙ sym (unwrap_or-slice_get (take live tables) n []))

pub unchanged : (tables : List Array) (live n : ℕ) (old : Array) → old ≡ get_or tables n [] → take live (set tables n old) ≡ take live tables
unchanged tables live n old at = ap (λ a. take live (set tables n a)) at ∙ ap (take live) (set-get_or tables n [])

-- an array that is there, and is changed
pub changed : (tables : List Array) (live n : ℕ) (old : Array) (f : Array → Array) → n < live → old ≡ get_or tables n [] → take live (set tables n (f old)) ≡ set (take live tables) n (f (array_of (take live tables) n))
changed tables live n old f low at =
    take-set tables live n (f old) ∙ ap (λ a. set (take live tables) n (f a)) (there tables live n old low at)

pub first-empty : (tables : List Array) (live : ℕ) → live < length tables → AreEmpty (drop live tables) → get_or tables live [] ≡ []
first-empty [] live low empty = absurd (omega arith)
first-empty (x ∷ tables) zero low empty = empty.0
first-empty (x ∷ tables) (suc live) low empty = first-empty tables live (omega arith) empty

rest-empty : (tables : List Array) (live : ℕ) → AreEmpty (drop live tables) → AreEmpty (drop (suc live) tables)
rest-empty [] zero empty = tt
rest-empty [] (suc live) empty = tt
rest-empty (x ∷ tables) zero empty = empty.1
rest-empty (x ∷ tables) (suc live) empty = rest-empty tables live empty

pub rest_empty : (tables : List Array) (live : ℕ) → AreEmpty (drop live tables) → AreEmpty (drop (live + 1) tables)
rest_empty tables live empty = let e : suc live ≡ live + 1 = omega arith in subst (λ n. AreEmpty (drop n tables)) e (rest-empty tables live empty)

-- one that is empty already is taken
pub one_more : (tables : List Array) (live : ℕ) → live < length tables → AreEmpty (drop live tables) → take (live + 1) tables ≡ take live tables ++ [] ∷ []
one_more tables live low empty = take_more tables live [] low ∙ ap (λ a. take live tables ++ a ∷ []) (first-empty tables live low empty)

pub none_behind : (tables : List Array) (n : ℕ) → length tables ≤ n → AreEmpty (drop n tables)
none_behind [] zero low = tt
none_behind [] (suc n) low = tt
none_behind (x ∷ tables) zero low = absurd (omega arith)
none_behind (x ∷ tables) (suc n) low = none_behind tables n (omega arith)

-- one that is made
pub one_made : (tables : List Array) (live : ℕ) → live ≤ length tables → length tables ≤ live → take (live + 1) (tables ++ [] ∷ []) ≡ take live tables ++ [] ∷ []
one_made tables live low high =
    take_all (live + 1) (tables ++ [] ∷ []) (omega (arith, length-append tables ([] ∷ []))) ∙ ap (λ l. l ++ [] ∷ []) (sym (take_all live tables (omega arith)))

-- one that is emptied stands before empty ones
pub emptied : (tables : List Array) (live : ℕ) → live < length tables → AreEmpty (drop (live + 1) tables) → AreEmpty (drop live (set tables live []))
emptied tables live low empty = subst AreEmpty (sym (drop-set tables live [] low)) (refl, empty)
