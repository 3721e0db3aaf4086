-- What a rule may read at a place, as the code keeps it.
use Rattle.std.specs.Prelude.{ℕ, Bool, List, [], ◌∷◌, Some}
use Rattle.awk_pieces.specs.definitions.Pieceable.{is_own_variable, is_own_array, is_mine, also, knows}
use Rattle.awk_pieces.specs.declared.readable.Known.{Known}

-- what is known behind statements that set these names in turn
abbrev pub set_known : (own : List ℕ → Bool) → List (List ℕ) → (known : List ℕ → Bool) → List ℕ → Bool
set_known own [] known = known
set_known own (x ∷ xs) known = set_known own xs (also own (Some x) known)

abbrev pub own_of : Known → List ℕ → Bool
own_of k = is_own_variable k.names.now k.arrays.now

abbrev pub arrays_of : Known → List ℕ → Bool
arrays_of k = is_own_array k.names.now k.arrays.now

abbrev pub mine_of : Known → List ℕ → Bool
mine_of k = is_mine (own_of k) (arrays_of k)

abbrev pub set_of : Known → List (List ℕ)
set_of k = k.set.items

abbrev pub known_of : Known → List ℕ → Bool
known_of k = set_known (mine_of k) k.set.items (knows (mine_of k))
