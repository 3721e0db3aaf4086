-- What a search does.
use Rattle.std.specs.Prelude.{◌≡◌, ◌+◌, ◌⊎◌, ℕ, suc, Bool, true, false, List, [], ◌∷◌, ◌++◌, get_or, length}
use Rattle.std.specs.List.{Contains}
use Rattle.std.specs.Global.{Vec}
use Rattle.awk_kinds.specs.declared.reach.Search.{Search}

abbrev pub IsMarked : Search → ℕ → Type 0
IsMarked s v = get_or s.marks.items v false ≡ true

abbrev pub unmarked : List Bool → ℕ
unmarked [] = 0
unmarked (true ∷ bs) = unmarked bs
unmarked (false ∷ bs) = suc (unmarked bs)

-- a search goes on: it forgets nothing, and each new mark is of one of these and is found
pub record Marks (old new : Search) (P : ℕ → Type 0) : Type 0 where
  pub long : length new.marks.items ≡ length old.marks.items
  pub kept : (v : ℕ) → IsMarked old v → IsMarked new v
  pub fresh : (v : ℕ) → IsMarked new v → IsMarked old v ⊎ P v
  pub grows : (more : List ℕ) × (new.found.items ≡ old.found.items ++ more)
  pub found : ((v : ℕ) → IsMarked old v → Contains old.found.items v) → (v : ℕ) → IsMarked new v → Contains new.found.items v
  pub is_marked : ((v : ℕ) → Contains old.found.items v → IsMarked old v) → (v : ℕ) → Contains new.found.items v → IsMarked new v
  pub left : unmarked new.marks.items + length new.found.items ≡ unmarked old.marks.items + length old.found.items

pub record MarksOne (old new : Search) (v : ℕ) : Type 0 where
  pub marks : Marks old new (λ w. w ≡ v)
  pub marked : IsMarked new v

pub record MarksAll (old new : Search) (list : List ℕ) : Type 0 where
  pub marks : Marks old new (Contains list)
  pub marked : (v : ℕ) → Contains list v → IsMarked new v

-- for each vertex the fronts of the edges that end there
pub record Groups (count : ℕ) (edges : List (ℕ × ℕ)) (rows : List (List ℕ)) : Type 0 where
  pub long : length rows ≡ count
  pub sound : (v w : ℕ) → Contains (get_or rows w []) v → Contains edges (v, w)
  pub complete : (v w : ℕ) → Contains edges (v, w) → Contains (get_or rows w []) v

abbrev pub rows_of : List (Vec ℕ) → List (List ℕ)
rows_of [] = []
rows_of (g ∷ gs) = g.items ∷ rows_of gs
