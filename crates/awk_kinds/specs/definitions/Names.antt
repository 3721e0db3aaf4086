-- The names of a program's variables, each at its number. POSIX awk, "Variables and Special Variables".
use Rattle.std.specs.Prelude.{◌≡◌, ℕ, Bool, if◌then◌else◌, List, [], ◌∷◌, ◌++◌, Some, slice_get, bytes_eq}
use Rattle.std.specs.List.{list_any}

-- a list with more after it
abbrev pub IsFront : {A : Type 0} → List A → List A → Type 0
IsFront {A = A} xs ys = (more : List A) × (ys ≡ xs ++ more)

-- the name has a number
abbrev pub has_name : List (List ℕ) → List ℕ → Bool
has_name names name = list_any (bytes_eq name) names

-- a new name takes the next number
abbrev pub with_name : List (List ℕ) → List ℕ → List (List ℕ)
with_name names name = if has_name names name then names else names ++ name ∷ []

-- no name has two numbers
abbrev pub AreDistinct : List (List ℕ) → Type 0
AreDistinct names = (i j : ℕ) (name : List ℕ) → slice_get names i ≡ Some name → slice_get names j ≡ Some name → i ≡ j

-- the number of a name, for which the names may have grown
pub record Numbers (old new : List (List ℕ)) (number : ℕ) (name : List ℕ) : Type 0 where
  pub grows : IsFront old new
  pub stands : slice_get new number ≡ Some name
