-- What is summed up of what pieces print.
use Rattle.std.proofs.Common.{◌≡◌, inl, inr, ℕ, ℤ, false, List, [], ◌∷◌, ◌++◌, refl, sym, ap, ◌∙◌, subst, bytes_eq, append_assoc}
use Rattle.std.proofs.lemmas.Bool.{cond-false}
use Rattle.awk_semantics.specs.definitions.State.{Effect, Printed, Requested}
use Rattle.awk_merging.specs.definitions.Gathering.{Table, updated, replayed, merged, sums}
use Rattle.awk_merging.specs.definitions.Sums.{Sum, ByKey, Alone, name_of_sum, cell_text}
use Rattle.awk_merging.specs.definitions.LawOfCells.{Held, cells, all_cells}
use Rattle.awk_merging.specs.definitions.LawOfReading.{IsUnnamed, IsAmong, key_for}
use Rattle.awk_merging.specs.definitions.LawOfStates.{Cell, Cells, text_of_cells, Tables, with_cell, behind_cells}
use Rattle.awk_merging.specs.definitions.LawOfSums.{bytes_of, cells_of_table, cells_of, held_by, IsFor, AreFor, Piece, tables_of, cells_of_pieces, updates_at, AllAreFor, LawOfSums}
use Rattle.awk_merging.proofs.Gathering.{apart_turned, law_of_gathering}
use Rattle.awk_merging.proofs.Ways.{sums_replay}
use Rattle.awk_merging.proofs.States.{own_cell}

-- what is printed

pub bytes_append : (es fs : List Effect) → bytes_of (es ++ fs) ≡ bytes_of es ++ bytes_of fs
bytes_append [] fs = refl
bytes_append (Printed n bytes ∷ es) fs = ap (λ (l : List ℕ). bytes ++ l) (bytes_append es fs) ∙ sym (append_assoc bytes (bytes_of es) (bytes_of fs))
bytes_append (Requested what ∷ es) fs = bytes_append es fs

pub text_append : (cs ds : Cells) → text_of_cells (cs ++ ds) ≡ text_of_cells cs ++ text_of_cells ds
text_append [] ds = refl
text_append (x ∷ cs) ds =
    let first = cell_text (name_of_sum x.sum) x.key x.number in
    ap (λ (l : List ℕ). first ++ l) (text_append cs ds) ∙ sym (append_assoc first (text_of_cells cs) (text_of_cells ds))

table_text : (x : Sum) (table : Table ℤ) → bytes_of (cells (name_of_sum x) table) ≡ text_of_cells (cells_of_table x table)
table_text x [] = refl
table_text x (y ∷ ys) = ap (λ (l : List ℕ). cell_text (name_of_sum x) y.0 y.1 ++ l) (table_text x ys)

held_text : (held : Held) → bytes_of (all_cells held) ≡ text_of_cells (cells_of held)
held_text [] = refl
held_text (x ∷ xs) =
    bytes_append (cells (name_of_sum x.0) x.1) (all_cells xs)
    ∙ ap (λ (l : List ℕ). l ++ bytes_of (all_cells xs)) (table_text x.0 x.1)
    ∙ ap (λ (l : List ℕ). text_of_cells (cells_of_table x.0 x.1) ++ l) (held_text xs)
    ∙ sym (text_append (cells_of_table x.0 x.1) (cells_of xs))

-- what is behind cells

pub behind_append : (tables : Tables) (cs ds : Cells) → behind_cells tables (cs ++ ds) ≡ behind_cells (behind_cells tables cs) ds
behind_append tables [] ds = refl
behind_append tables (x ∷ cs) ds = behind_append (with_cell tables x) cs ds

behind_both : (tables : Tables) (cs ds : Cells) (name : List ℕ) → behind_cells tables (cs ++ ds) name ≡ behind_cells (behind_cells tables cs) ds name
behind_both tables cs ds name = ap (λ (t : Tables). t name) (behind_append tables cs ds)

pub own_key_for : (x : Sum) (y : List ℕ × ℤ) (ys : Table ℤ) → IsFor x (y ∷ ys) → key_for x y.0 ≡ y.0
own_key_for (ByKey a) y ys is = refl
own_key_for (Alone x) y ys is = sym is.0

pub rest_for : (x : Sum) (y : List ℕ × ℤ) (ys : Table ℤ) → IsFor x (y ∷ ys) → IsFor x ys
rest_for (ByKey a) y ys is = tt
rest_for (Alone x) y ys is = is.1

own_table : (x : Sum) (ys : Table ℤ) → IsFor x ys → (tables : Tables) → behind_cells tables (cells_of_table x ys) (name_of_sum x) ≡ replayed sums (tables (name_of_sum x)) ys
own_table x [] is tables = refl
own_table x (y ∷ ys) is tables =
    let cell : Cell = record { sum = x; key = y.0; number = y.1 } in
    own_table x ys (rest_for x y ys is) (with_cell tables cell)
    ∙ ap (λ (t : Table ℤ). replayed sums t ys) (own_cell tables cell ∙ ap (λ (key : List ℕ). updated sums (tables (name_of_sum x)) key y.1) (own_key_for x y ys is))

pub other_table : (x : Sum) (ys : Table ℤ) (name : List ℕ) → bytes_eq (name_of_sum x) name ≡ false → (tables : Tables) → behind_cells tables (cells_of_table x ys) name ≡ tables name
other_table x [] name apart tables = refl
other_table x (y ∷ ys) name apart tables = other_table x ys name apart (with_cell tables (record { sum = x; key = y.0; number = y.1 })) ∙ cond-false _ _ _ apart

pub unnamed_same : (xs : List Sum) (name : List ℕ) → IsUnnamed name xs → (tables others : Tables) → behind_cells tables (cells_of (held_by xs others)) name ≡ tables name
unnamed_same [] name unnamed tables others = refl
unnamed_same (y ∷ ys) name unnamed tables others =
    let first = cells_of_table y (others (name_of_sum y)) in
    behind_both tables first (cells_of (held_by ys others)) name
    ∙ unnamed_same ys name unnamed.1 (behind_cells tables first) others
    ∙ other_table y (others (name_of_sum y)) name (apart_turned name (name_of_sum y) unnamed.0) tables

pub among_replayed : (xs : List Sum) (x : Sum) → IsAmong x xs → (tables others : Tables) → AreFor xs others → behind_cells tables (cells_of (held_by xs others)) (name_of_sum x) ≡ replayed sums (tables (name_of_sum x)) (others (name_of_sum x))
among_replayed [] x among tables others are = absurd among
among_replayed (y ∷ ys) x (inl is) tables others are =
    let first = cells_of_table y (others (name_of_sum y)) in
    behind_both tables first (cells_of (held_by ys others)) (name_of_sum x)
    ∙ unnamed_same ys (name_of_sum x) is.1 (behind_cells tables first) others
    ∙ subst (λ (z : Sum). behind_cells tables first (name_of_sum z) ≡ replayed sums (tables (name_of_sum z)) (others (name_of_sum z))) (sym is.0) (own_table y (others (name_of_sum y)) are.0 tables)
among_replayed (y ∷ ys) x (inr later) tables others are =
    let first = cells_of_table y (others (name_of_sum y)) in
    behind_both tables first (cells_of (held_by ys others)) (name_of_sum x)
    ∙ among_replayed ys x later.1 (behind_cells tables first) others are.1
    ∙ ap (λ (t : Table ℤ). replayed sums t (others (name_of_sum x))) (other_table y (others (name_of_sum y)) (name_of_sum x) (apart_turned (name_of_sum x) (name_of_sum y) later.0) tables)

pieces_merged : (xs : List Sum) (x : Sum) → IsAmong x xs → (pieces : List Piece) → AllAreFor xs pieces → (tables : Tables) → behind_cells tables (cells_of_pieces xs pieces) (name_of_sum x) ≡ merged sums (tables (name_of_sum x)) (updates_at (name_of_sum x) pieces)
pieces_merged xs x among [] are tables = refl
pieces_merged xs x among (piece ∷ pieces) are tables =
    let first = cells_of (held_by xs (tables_of piece)) in
    behind_both tables first (cells_of_pieces xs pieces) (name_of_sum x)
    ∙ pieces_merged xs x among pieces are.1 (behind_cells tables first)
    ∙ ap (λ (t : Table ℤ). merged sums t (updates_at (name_of_sum x) pieces)) (among_replayed xs x among tables (tables_of piece) are.0)

pub law_of_sums : LawOfSums
law_of_sums = record {
  text = held_text;
  replays = λ xs tables others are x among. among_replayed xs x among tables others are;
  merges = λ xs pieces are x among. pieces_merged xs x among pieces are (λ name. []) ∙ sym ((law_of_gathering ℤ ℤ).merges sums sums_replay (updates_at (name_of_sum x) pieces));
}
