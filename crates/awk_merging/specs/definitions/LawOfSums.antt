-- What is summed up of what pieces print: what all their updates gather.
use Rattle.std.specs.Prelude.{◌≡◌, ℕ, ℤ, List, [], ◌∷◌, ◌++◌}
use Rattle.awk_semantics.specs.definitions.State.{Effect, Printed, Requested}
use Rattle.awk_merging.specs.definitions.Gathering.{Table, Updates, gathered, replayed, of_parts, sums}
use Rattle.awk_merging.specs.definitions.Sums.{Sum, ByKey, Alone, name_of_sum}
use Rattle.awk_merging.specs.definitions.LawOfCells.{Held, all_cells}
use Rattle.awk_merging.specs.definitions.LawOfReading.{IsAmong}
use Rattle.awk_merging.specs.definitions.LawOfStates.{Cells, text_of_cells, Tables, behind_cells}

-- the bytes that effects print
abbrev pub bytes_of : List Effect → List ℕ
bytes_of [] = []
bytes_of (Printed n bytes ∷ effects) = bytes ++ bytes_of effects
bytes_of (Requested what ∷ effects) = bytes_of effects

-- the cells of a sum, and of sums
abbrev pub cells_of_table : Sum → Table ℤ → Cells
cells_of_table x [] = []
cells_of_table x (y ∷ ys) = record { sum = x; key = y.0; number = y.1 } ∷ cells_of_table x ys

abbrev pub cells_of : Held → Cells
cells_of [] = []
cells_of (x ∷ xs) = cells_of_table x.0 x.1 ++ cells_of xs

-- sums with the tables of their names
abbrev pub held_by : List Sum → Tables → Held
held_by [] tables = []
held_by (x ∷ xs) tables = (x, tables (name_of_sum x)) ∷ held_by xs tables

-- a table of a variable has no key but the empty one
abbrev pub IsFor : Sum → Table ℤ → Type 0
IsFor (ByKey a) table = Unit {0}
IsFor (Alone x) [] = Unit {0}
IsFor (Alone x) (y ∷ ys) = (y.0 ≡ []) × IsFor (Alone x) ys

abbrev pub AreFor : List Sum → Tables → Type 0
AreFor [] tables = Unit {0}
AreFor (x ∷ xs) tables = IsFor x (tables (name_of_sum x)) × AreFor xs tables

-- the updates that a piece makes of its sums, by their names, and what they gather by themselves
abbrev pub Piece : Type 0
Piece = List ℕ → Updates ℤ

abbrev pub tables_of : Piece → Tables
tables_of piece name = gathered sums [] (piece name)

-- the cells of pieces, one behind the other, and the updates of a name
abbrev pub cells_of_pieces : List Sum → List Piece → Cells
cells_of_pieces xs [] = []
cells_of_pieces xs (piece ∷ pieces) = cells_of (held_by xs (tables_of piece)) ++ cells_of_pieces xs pieces

abbrev pub updates_at : List ℕ → List Piece → List (Updates ℤ)
updates_at name [] = []
updates_at name (piece ∷ pieces) = piece name ∷ updates_at name pieces

abbrev pub AllAreFor : List Sum → List Piece → Type 0
AllAreFor xs [] = Unit {0}
AllAreFor xs (piece ∷ pieces) = AreFor xs (tables_of piece) × AllAreFor xs pieces

pub record LawOfSums : Type 0 where
  -- what is printed of sums is the text of their cells
  pub text : (held : Held) → bytes_of (all_cells held) ≡ text_of_cells (cells_of held)
  -- behind the cells of tables, each sum has the other table replayed on its own
  pub replays : (xs : List Sum) (tables others : Tables) → AreFor xs others → (x : Sum) → IsAmong x xs →
      behind_cells tables (cells_of (held_by xs others)) (name_of_sum x) ≡ replayed sums (tables (name_of_sum x)) (others (name_of_sum x))
  -- behind the cells of pieces, each sum is what all updates of the pieces gather
  pub merges : (xs : List Sum) (pieces : List Piece) → AllAreFor xs pieces → (x : Sum) → IsAmong x xs →
      behind_cells (λ name. []) (cells_of_pieces xs pieces) (name_of_sum x) ≡ gathered sums [] (of_parts sums (updates_at (name_of_sum x) pieces))
