-- The numbers of names.
use Rattle.std.proofs.Common.{◌≡◌, ℕ, suc, Bool, true, false, List, [], ◌∷◌, length, Option, Some, None, refl, ap}
use Rattle.std.specs.Prelude.{bytes_eq, if◌then◌else◌}
use Rattle.std.specs.Option.{option_map, unwrap_or}
use Rattle.awk_kinds.specs.Signatures.{place_of}
use Rattle.awk_semantics.specs.Primitives.{number_in}

-- the place that is found, or how many there are
pub number-is : (x : List ℕ) (names : List (List ℕ)) → unwrap_or (place_of names x) (length names) ≡ number_in names x
number-is x [] = refl
number-is x (y ∷ names) = by (bytes_eq x y) (place_of names x) (number-is x names)
  where
    by : (b : Bool) (o : Option ℕ) → unwrap_or o (length names) ≡ number_in names x → unwrap_or (if b then Some 0 else option_map suc o) (suc (length names)) ≡ (if b then 0 else suc (number_in names x))
    by true o e = refl
    by false None e = ap suc e
    by false (Some i) e = ap suc e
