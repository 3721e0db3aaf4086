-- The entries of a map and the texts of its keys, with their stamps.
use Rattle.std.specs.Prelude.{◌≡◌, ◌≤◌, ℕ, Bool, Some, List, length, take, drop, map, bytes_eq}
use Rattle.std.specs.Map.{lookup, set_value}
use Rattle.std.specs.List.Sorted.{IsPermutation, IsNonDecreasingBy}
use Rattle.std.specs.Global.{Vec}
use Rattle.indexmap.specs.IndexMap.{insert_entry}
use Rattle.awk_value.specs.declared.value.Value.{Value}
use Rattle.awk_value.specs.declared.entry.Entry.{Entry}
use Rattle.awk_value.specs.declared.key_rows.KeyRow.{KeyRow}

-- the stamp of a row, and its text, which stands in a block of bytes
abbrev pub row_in : List ℕ → KeyRow → ℕ × List ℕ
row_in block row = (row.stamp, drop row.start (take row.end block))

abbrev pub IsRowIn : List ℕ → KeyRow → Type 0
IsRowIn block row = (row.start ≤ row.end) × (row.end ≤ length block)

-- the texts are those of the rows, which are sorted by their stamps
pub record AreByStamp (texts : List (List ℕ)) (rows : List (ℕ × List ℕ)) : Type 0 where
  pub sorted : List (ℕ × List ℕ)
  pub moved : IsPermutation rows sorted
  pub ordered : IsNonDecreasingBy (λ r. r.0) sorted
  pub are : texts ≡ map (λ r. r.1) sorted

-- the entry that passes the test keeps its stamp and has the value
pub record IsSet {K : Type 0} (test : K → Bool) (old new : List (K × Entry)) (v : Value) : Type 0 where
  pub entry : Entry
  pub there : lookup test old ≡ Some entry
  pub set : new ≡ set_value test old (record { stamp = entry.stamp; value = v })

-- a copy of the text has the entry, as insert_entry of a map adds it
pub record IsAdded (text : List ℕ) (old new : List (Vec ℕ × Entry)) (entry : Entry) : Type 0 where
  pub copy : Vec ℕ
  pub same : copy.items ≡ text
  pub added : new ≡ insert_entry (λ x y. bytes_eq x.items y.items) old copy entry
