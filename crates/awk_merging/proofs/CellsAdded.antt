-- The cells of what a piece summed up are added in range, where the sums of the whole stay in range.
use Rattle.std.proofs.Common.{◌≡◌, inl, inr, ℕ, ℤ, ◌+ℤ◌, true, false, List, [], ◌∷◌, ◌++◌, refl, sym, ap, ◌∙◌, subst, bytes_eq, append_assoc}
use Rattle.std.specs.Fmt.{signed_decimal}
use Rattle.std.proofs.lemmas.Bool.{cases_Bool, cond-true, cond-false}
use Rattle.awk_value.specs.Arithmetic.{is_in_range}
use Rattle.awk_merging.specs.definitions.Gathering.{Table, IsFree, updated, replayed, sums}
use Rattle.awk_merging.specs.definitions.Sums.{Sum, name_of_sum, cell_text}
use Rattle.awk_merging.specs.definitions.LawOfCells.{IsLine}
use Rattle.awk_merging.specs.definitions.LawOfReading.{IsAmong, number_at}
use Rattle.awk_merging.specs.definitions.LawOfStates.{Cell, Cells, text_of_cells, Tables, with_cell, behind_cells, AreAdded}
use Rattle.awk_merging.specs.definitions.LawOfSums.{cells_of_table, cells_of, held_by, IsFor}
use Rattle.awk_merging.specs.definitions.LawOfDerived.{IsOneOf}
use Rattle.awk_merging.specs.definitions.LawOfRules.{IsSound}
use Rattle.awk_merging.specs.definitions.LawOfMerging.{HasShortLines}
use Rattle.awk_merging.proofs.Gathering.{own_key, apart_from}
use Rattle.awk_merging.proofs.ProgramSums.{AreApart, one_unnamed}
use Rattle.awk_merging.proofs.Sound.{sound_cell}
use Rattle.awk_merging.proofs.States.{own_cell}
use Rattle.awk_merging.proofs.CellLines.{cell_front}
use Rattle.awk_merging.proofs.SumArrays.{from_zero}
use Rattle.awk_merging.proofs.SumsMerged.{own_key_for, rest_for, other_table, text_append}
use Rattle.awk_merging.proofs.CellsTold.{AreLines}

-- the number at a key

number_own : (table : Table ℤ) (key : List ℕ) (n : ℤ) → number_at (updated sums table key n) key ≡ number_at table key +ℤ n
number_own [] key n = cond-true _ _ _ (own_key key) ∙ sym (from_zero n)
number_own (x ∷ xs) key n = elim (cases_Bool (bytes_eq key x.0)) [
  | inl is ↦ rw (is, is) refl
  | inr not ↦ rw (not, not) (number_own xs key n)
]

number_other : (table : Table ℤ) (key other : List ℕ) (n : ℤ) → bytes_eq key other ≡ false → number_at (updated sums table other n) key ≡ number_at table key
number_other [] key other n apart = cond-false _ _ _ apart
number_other (x ∷ xs) key other n apart = elim (cases_Bool (bytes_eq other x.0)) [
  | inl is ↦ elim (cases_Bool (bytes_eq key x.0)) [
    | inl same ↦ absurd (apart_from key other x.0 same is apart)
    | inr not ↦ rw (is, not) refl
  ]
  | inr not ↦ elim (cases_Bool (bytes_eq key x.0)) [
    | inl same ↦ rw (not, same) refl
    | inr different ↦ rw (not, different) (number_other xs key other n apart)
  ]
]

number_replayed : (table ys : Table ℤ) (key : List ℕ) → IsFree ys key → number_at (replayed sums table ys) key ≡ number_at table key
number_replayed table [] key free = refl
number_replayed table (y ∷ ys) key free = number_replayed (updated sums table y.0 y.1) ys key free.1 ∙ number_other table key y.0 y.1 free.0

number_sound : (table : Table ℤ) (key : List ℕ) → IsSound table → is_in_range (number_at table key) ≡ true
number_sound [] key sound = refl
number_sound (x ∷ xs) key sound = elim (cases_Bool (bytes_eq key x.0)) [
  | inl is ↦ rw is sound.0
  | inr not ↦ rw not (number_sound xs key sound.2)
]

-- short lines

short_behind : (front text : List ℕ) → HasShortLines (front ++ text) → HasShortLines text
short_behind front text short before line back is = short (front ++ before) line back (ap (λ (l : List ℕ). front ++ l) is ∙ sym (append_assoc front before (line ++ back)))

short_before : (text back : List ℕ) → HasShortLines (text ++ back) → HasShortLines text
short_before text back short front line rest is =
    short front line (rest ++ back) (ap (λ (l : List ℕ). l ++ back) is ∙ append_assoc front (line ++ rest) back ∙ ap (λ (l : List ℕ). front ++ l) (append_assoc line rest back))

module _ (xs : List Sum) where
  pub added_append : (tables : Tables) (cs ds : Cells) → AreAdded xs tables cs → AreAdded xs (behind_cells tables cs) ds → AreAdded xs tables (cs ++ ds)
  added_append tables [] ds a b = b
  added_append tables (x ∷ cs) ds a b = (a.0, a.1, a.2, a.3, a.4, added_append (with_cell tables x) cs ds a.5 b)

  pub sound_behind : (tables : Tables) (cells : Cells) → ((name : List ℕ) → IsSound (tables name)) → AreAdded xs tables cells → (name : List ℕ) → IsSound (behind_cells tables cells name)
  sound_behind tables [] sound added = sound
  sound_behind tables (x ∷ cells) sound added = sound_behind (with_cell tables x) cells (sound_cell tables x sound added.4) added.5

  -- one sum's
  own_added : (x : Sum) (ys : Table ℤ) (tables : Tables) → IsAmong x xs → IsLine (name_of_sum x) → IsFor x ys → IsSound ys → AreLines ys → HasShortLines (text_of_cells (cells_of_table x ys)) → IsSound (replayed sums (tables (name_of_sum x)) ys) →
      AreAdded xs tables (cells_of_table x ys)
  own_added x [] tables among line for sound lines short whole = tt
  own_added x (y ∷ ys) tables among line for sound lines short whole =
      let name : List ℕ = name_of_sum x in
      let cell : Cell = record { sum = x; key = y.0; number = y.1 } in
      let rest : List ℕ = text_of_cells (cells_of_table x ys) in
      let behind_key : List ℕ = 10 ∷ (signed_decimal y.1 ++ (10 ∷ rest)) in
      let text = cell_front name y.0 (signed_decimal y.1) rest in
      let at_key = own_key_for x y ys for in
      let number : number_at (replayed sums (updated sums (tables name) y.0 y.1) ys) y.0 ≡ number_at (tables name) y.0 +ℤ y.1
      = number_replayed (updated sums (tables name) y.0 y.1) ys y.0 sound.1 ∙ number_own (tables name) y.0 y.1 in
      let same : with_cell tables cell name ≡ updated sums (tables name) y.0 y.1 = own_cell tables cell ∙ ap (λ (key : List ℕ). updated sums (tables name) key y.1) at_key in (
        among,
        (line, short [] name (10 ∷ (y.0 ++ behind_key)) text line),
        (lines.0, short (name ++ 10 ∷ []) y.0 behind_key (text ∙ sym (append_assoc name (10 ∷ []) (y.0 ++ behind_key))) lines.0),
        sound.0,
        ap (λ (key : List ℕ). is_in_range (number_at (tables name) key +ℤ y.1)) at_key ∙ ap is_in_range (sym number) ∙ number_sound (replayed sums (updated sums (tables name) y.0 y.1) ys) y.0 whole,
        own_added x ys (with_cell tables cell) among line (rest_for x y ys for) sound.2 lines.1 (short_behind (cell_text name y.0 y.1) rest short) (subst (λ (t : Table ℤ). IsSound (replayed sums t ys)) (sym same) whole),
      )

  -- what a sum is added by
  pub record IsReady (before tables : Tables) (x : Sum) : Type 0 where
    pub among : IsAmong x xs
    pub line : IsLine (name_of_sum x)
    pub for : IsFor x (tables (name_of_sum x))
    pub sound : IsSound (tables (name_of_sum x))
    pub lines : AreLines (tables (name_of_sum x))
    pub whole : IsSound (replayed sums (before (name_of_sum x)) (tables (name_of_sum x)))

  pub all_added : (zs : List Sum) (before tables : Tables) → AreApart zs → ((x : Sum) → IsOneOf x zs → IsReady before tables x) → HasShortLines (text_of_cells (cells_of (held_by zs tables))) → AreAdded xs before (cells_of (held_by zs tables))
  all_added [] before tables apart ready short = tt
  all_added (z ∷ zs) before tables apart ready short =
      let name : List ℕ = name_of_sum z in
      let first : Cells = cells_of_table z (tables name) in
      let rest : Cells = cells_of (held_by zs tables) in
      let own = ready z (inl refl) in
      let shorts : HasShortLines (text_of_cells first ++ text_of_cells rest) = subst HasShortLines (text_append first rest) short in
      added_append before first rest
      (own_added z (tables name) before own.among own.line own.for own.sound own.lines (short_before (text_of_cells first) (text_of_cells rest) shorts) own.whole)
      (all_added zs (behind_cells before first) tables apart.1 (λ x is.
      let one = ready x (inr is) in
      let same : behind_cells before first (name_of_sum x) ≡ before (name_of_sum x) = other_table z (tables name) (name_of_sum x) (one_unnamed name x zs apart.0 is) before in
      record {
        among = one.among;
        line = one.line;
        for = one.for;
        sound = one.sound;
        lines = one.lines;
        whole = subst (λ (t : Table ℤ). IsSound (replayed sums t (tables (name_of_sum x)))) (sym same) one.whole;
      }) (short_behind (text_of_cells first) (text_of_cells rest) shorts))
