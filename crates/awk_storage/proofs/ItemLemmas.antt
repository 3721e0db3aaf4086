-- Elements of lists, as slices lend them and as they are set.
use Rattle.std.proofs.Common.{Bor, ◌≡◌, ◌<◌, ◌≤◌, ℕ, zero, suc, List, [], ◌∷◌, length, take, set, refl, sym, ap, arith}
use Rattle.std.specs.Prelude.{slice_get, Option, Some, None}
use Rattle.std.specs.Option.{option_copied}
use Rattle.std.specs.Slice.{IsItemAt}
use Rattle.std.proofs.lemmas.Bool.Decides.{nat_tests}
use Rattle.std.proofs.lemmas.Option.{slice_get_read, slice_get_past}

pub item_got : {X : Type 0} (xs : List X) (i : ℕ) (r : Option (Bor X)) → IsItemAt xs i r → option_copied r ≡ slice_get xs i
item_got xs i (Some x) h =
    let within : i < length xs = grind (arith, nat_tests, h.0) in
    sym (slice_get_read xs (length xs) i x.now refl within h.1)
item_got xs i None h =
    let past : length xs ≤ i = grind (arith, nat_tests, h.0) in
    sym (slice_get_past xs i past)

pub take-set : {X : Type 0} (xs : List X) (n i : ℕ) (x : X) → take n (set xs i x) ≡ set (take n xs) i x
take-set xs zero i x = refl
take-set [] (suc n) i x = refl
take-set (y ∷ xs) (suc n) zero x = refl
take-set (y ∷ xs) (suc n) (suc i) x = ap (λ l. y ∷ l) (take-set xs n i x)
