-- Rows of keys, whose texts stand in one block of bytes.
use Rattle.std.proofs.Common.{◌≡◌, ℕ, suc, ◌<◌, List, [], ◌∷◌, ◌++◌, map, length, drop, get_or, refl, ap, ap₂, ◌∙◌, arith}
use Rattle.std.specs.List.{All}
use Rattle.std.specs.List.Sorted.{IsNonDecreasingBy}
use Rattle.std.proofs.lemmas.List.{take-append-le, take_all, get_or-map, length-map}
use Rattle.std.proofs.Math.Seq.{drop-append_seam}
use Rattle.awk_value.specs.declared.key_rows.KeyRow.{KeyRow}
use Rattle.awk_value.specs.support.Rows.{row_in, IsRowIn}
use Rattle.awk_value.proofs.Rows.{map-push}

-- a block that grows keeps the texts that stand in it

still : (block more : List ℕ) (row : KeyRow) → IsRowIn block row → row_in (block ++ more) row ≡ row_in block row
still block more row (low, within) = ap (λ l. (row.stamp, drop row.start l)) (take-append-le row.end block more within)

pub all_still : (block more : List ℕ) (rows : List KeyRow) → All (IsRowIn block) rows → map (row_in (block ++ more)) rows ≡ map (row_in block) rows
all_still block more [] all = refl
all_still block more (row ∷ rows) all =
    ap₂ (λ r rs. r ∷ rs) (still block more row (all 0 row (omega arith))) (all_still block more rows (λ k d low. all (suc k) d (omega (arith, low))))

-- one text more

added : (block text : List ℕ) (stamp : ℕ) → row_in (block ++ text) (record { stamp = stamp; start = length block; end = length (block ++ text) }) ≡ (stamp, text)
added block text stamp = ap (λ l. (stamp, drop (length block) l)) (take_all (length (block ++ text)) (block ++ text) (omega arith)) ∙ ap (λ l. (stamp, l)) (drop-append_seam block text)

module _ (block text : List ℕ) (rows : List KeyRow) (stamp : ℕ) (all : All (IsRowIn block) rows) where
  abbrev row : KeyRow
  row = record { stamp = stamp; start = length block; end = length (block ++ text) }

  pub one_added : map (row_in (block ++ text)) (rows ++ row ∷ []) ≡ map (row_in block) rows ++ (stamp, text) ∷ []
  one_added = map-push (row_in (block ++ text)) rows row ∙ ap₂ (λ rs r. rs ++ r ∷ []) (all_still block text rows all) (added block text stamp)

-- rows in the order of their stamps

pub in_order : (block : List ℕ) (rows : List KeyRow) → IsNonDecreasingBy (λ r. r.stamp) rows → IsNonDecreasingBy (λ r. r.0) (map (row_in block) rows)
in_order block rows rise i j d low high =
    let none : KeyRow = record { stamp = 0; start = 0; end = 0 } in
    let last : j < length rows = omega (arith, high, length-map rows (row_in block)) in
    let at_i : (get_or (map (row_in block) rows) i d).0 ≡ (get_or rows i none).stamp = ap (λ r. r.0) (get_or-map (row_in block) rows i none d (omega (arith, low, last))) in
    let at_j : (get_or (map (row_in block) rows) j d).0 ≡ (get_or rows j none).stamp = ap (λ r. r.0) (get_or-map (row_in block) rows j none d last) in
    omega (arith, at_i, at_j, rise i j none low last)
