-- How an array is kept: a map by numbers, one by short texts and one by long texts, as one list of
-- entries by texts.
use Rattle.std.specs.Prelude.{ℕ, ℤ, ◌<◌, List, ◌++◌, nat_eq, bytes_eq, map}
use Rattle.std.specs.Fmt.{signed_decimal}
use Rattle.std.specs.List.{IsDistinct, AllByRecursion}
use Rattle.std.specs.Map.{keys_of}
use Rattle.awk_value.specs.support.Texts.{IsInt64, IsTextKey}

-- the entries of two maps, their keys as texts
abbrev pub joined : {A B E : Type 0} → (A → List ℕ) → (B → List ℕ) → List (A × E) → List (B × E) → List (List ℕ × E)
joined f g xs ys = map (λ e. (f e.0, e.1)) xs ++ map (λ e. (g e.0, e.1)) ys

-- the entries of both maps, where a number stands for its decimal form
abbrev pub all_entries : {T E : Type 0} → (T → List ℕ) → List (ℤ × E) → List (T × E) → List (List ℕ × E)
all_entries items ns ts = joined signed_decimal items ns ts

module _ {T E V : Type 0} (items : T → List ℕ) (stamp : E → ℕ) (value : E → V) where
  abbrev pub all_rows : List (ℤ × E) → List (T × E) → List (ℕ × (List ℕ × V))
  all_rows ns ts = map (λ e. (stamp e.1, (e.0, value e.1))) (all_entries items ns ts)

  -- stamps differ and are below n, keys differ as texts, and a key's text determines its map
  abbrev pub IsConsistent : ℕ → List (ℤ × E) → List (T × E) → Type 0
  IsConsistent n ns ts =
      (IsDistinct nat_eq (keys_of (all_rows ns ts)) × IsDistinct bytes_eq (keys_of (all_entries items ns ts)) × AllByRecursion (λ s. s < n) (keys_of (all_rows ns ts)))
      × AllByRecursion IsInt64 (keys_of ns) × AllByRecursion (λ t. IsTextKey (items t)) (keys_of ts)
