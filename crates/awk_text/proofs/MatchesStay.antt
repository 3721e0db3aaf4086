-- A match that begins within the text stays there, and doesn't go back.
use Rattle.std.proofs.Common.{ℕ, zero, suc, ◌≤◌, List, length, ⊎_elim, arith}
use Rattle.std.proofs.lemmas.Option.{slice_get_within}
use Rattle.awk_ere.specs.definitions.Tree.{Tree, empty, class, start, end, pieces, branches, repeat, Row, none, next, Times, Matches, MatchesAll, MatchesOne}

-- from a place up to n it leads to one that isn't before it, up to n
abbrev pub Stays : ℕ → (ℕ → ℕ → Type 0) → Type 0
Stays n R = (i j : ℕ) → R i j → i ≤ n → (i ≤ j) × (j ≤ n)

times_stay : (n : ℕ) (R : ℕ → ℕ → Type 0) → Stays n R → (m i j : ℕ) → Times R m i j → i ≤ n → (i ≤ j) × (j ≤ n)
times_stay n R h zero i j e le = (omega (arith, e), omega (arith, e, le))
times_stay n R h (suc m) i j t le =
    let first = h i t.0 t.1 le in
    let rest = times_stay n R h m t.0 j t.2 first.1 in
    (omega (arith, first.0, rest.0), rest.1)

mutual
  pub match_stays : (s : List ℕ) (t : Tree) (i j : ℕ) → Matches s t i j → i ≤ length s → (i ≤ j) × (j ≤ length s)
  match_stays s empty i j m le = (omega (arith, m), omega (arith, m, le))
  match_stays s (class c) i j m le =
      let lt = slice_get_within s i m.0 m.1 in (omega (arith, m.3), omega (arith, lt, m.3))
  match_stays s start i j m le = (omega (arith, m.0, m.1), omega (arith, m.1))
  match_stays s end i j m le = (omega (arith, m.0, m.1), omega (arith, m.1))
  match_stays s (pieces t row) i j m le =
      let first = match_stays s t i m.0 m.1 le in
      let rest = all_stay s row m.0 j m.2 first.1 in
      (omega (arith, first.0, rest.0), rest.1)
  match_stays s (branches t row) i j m le = ⊎_elim (λ x. match_stays s t i j x le) (λ x. one_stays s row i j x le) m
  match_stays s (repeat t c) i j m le = times_stay (length s) (Matches s t) (match_stays s t) m.0 i j m.2 le

  all_stay : (s : List ℕ) (row : Row) (i j : ℕ) → MatchesAll s row i j → i ≤ length s → (i ≤ j) × (j ≤ length s)
  all_stay s none i j m le = (omega (arith, m), omega (arith, m, le))
  all_stay s (next t row) i j m le =
      let first = match_stays s t i m.0 m.1 le in
      let rest = all_stay s row m.0 j m.2 first.1 in
      (omega (arith, first.0, rest.0), rest.1)

  one_stays : (s : List ℕ) (row : Row) (i j : ℕ) → MatchesOne s row i j → i ≤ length s → (i ≤ j) × (j ≤ length s)
  one_stays s none i j m le = absurd m
  one_stays s (next t row) i j m le = ⊎_elim (λ x. match_stays s t i j x le) (λ x. one_stays s row i j x le) m
