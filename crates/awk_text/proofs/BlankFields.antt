-- A field between blanks, from where blanks end to where they begin.
use Rattle.std.proofs.Common.{◌≡◌, ℕ, zero, suc, ◌+◌, ◌-◌, ◌<◌, ◌≤◌, Bool, true, false, cond, not, List, ◌∷◌, length, drop, get_or, refl, sym, ap, subst, ◌∙◌, arith, inl, inr}
use Rattle.std.specs.Prelude.{min, slice_range}
use Rattle.std.specs.List.{filter}
use Rattle.std.proofs.lemmas.Bool.{cases_lt, false≢true}
use Rattle.std.proofs.lemmas.List.{at_drop_more}
use Rattle.std.proofs.lemmas.List.Splits.{slice_split-cons_yes}
use Rattle.awk_text.specs.declared.marks.Turns.{Turns}
use Rattle.awk_text.specs.definitions.Pieces.{is_blank_or_newline, is_full, blank_pieces}
use Rattle.awk_text.specs.support.Stretch.{IsStretchEnd}
use Rattle.awk_text.specs.support.MarksLeft.{AreTurnsLeft, IsNextPlace, is_turn, is_behind_blank}
use Rattle.awk_text.proofs.NextPiece.{next_blank_piece, blank_pieces-past}
use Rattle.awk_text.proofs.TurnMarks.{all_same, still_behind, behind_later}

one_skipped : (text : List ℕ) (i : ℕ) → i < length text → is_blank_or_newline (get_or text i 0) ≡ true → blank_pieces (drop i text) ≡ blank_pieces (drop (i + 1) text)
one_skipped text i lt is =
    at_drop_more blank_pieces text i 0 lt ∙ ap (filter is_full) (slice_split-cons_yes is_blank_or_newline (get_or text i 0) (drop (i + 1) text) is)

-- blanks in front are skipped
skipped_by : (text : List ℕ) (from n : ℕ) → from + n ≤ length text → ((k : ℕ) → from ≤ k → k < from + n → is_blank_or_newline (get_or text k 0) ≡ true) → blank_pieces (drop from text) ≡ blank_pieces (drop (from + n) text)
skipped_by text from zero le blank = ap (λ k. blank_pieces (drop k text)) (omega arith)
skipped_by text from (suc n) le blank =
    skipped_by text from n (omega arith) (λ k low high. blank k low (omega arith))
    ∙ (one_skipped text (from + n) (omega arith) (blank (from + n) (omega arith) (omega arith)) ∙ ap (λ k. blank_pieces (drop k text)) (omega arith))

skipped : (text : List ℕ) (from start : ℕ) → from ≤ start → start ≤ length text → ((k : ℕ) → from ≤ k → k < start → is_blank_or_newline (get_or text k 0) ≡ true) → blank_pieces (drop from text) ≡ blank_pieces (drop start text)
skipped text from start low high blank =
    let sum : from + (start - from) ≡ start = omega arith in
    skipped_by text from (start - from) (omega arith) (λ k le lt. blank k le (omega arith)) ∙ ap (λ k. blank_pieces (drop k text)) sum

unset : (c d : Bool) → cond c (not d) d ≡ true → c ≡ true → d ≡ false
unset true true e is = sym e
unset true false e is = refl
unset false true e is = absurd (false≢true is)
unset false false e is = refl

set : (c d : Bool) → cond c (not d) d ≡ true → c ≡ false → d ≡ true
set true true e is = refl
set true false e is = absurd (false≢true (sym is))
set false true e is = refl
set false false e is = e

module _ (text : List ℕ) (first : ℕ) where
  -- from a place behind a blank on no blanks end any more
  pub no_field_behind : (rest : ℕ) → (rest < length text → is_behind_blank text first rest ≡ true) → first ≤ rest → IsNextPlace (is_turn text first) (length text) (min rest (length text)) (length text) → blank_pieces (drop rest text) ≡ blank_pieces (drop (length text) text)
  no_field_behind rest behind low is = elim (cases_lt rest (length text)) [
    | inl lt ↦
        let here : min rest (length text) ≡ rest = omega arith in
        let none = subst (λ k. IsNextPlace (is_turn text first) (length text) k (length text)) here is in
        skipped text rest (length text) (omega arith) (omega arith) (all_same text first rest (length text) low true (behind lt) none.none)
    | inr le ↦ blank_pieces-past text rest le ∙ sym (blank_pieces-past text (length text) (omega arith))
  ]

  -- the next place where they end, and the next where they begin
  module _ (rest start end : ℕ) (low : first ≤ rest) (before : start < length text) (behind : rest < length text → is_behind_blank text first rest ≡ true)
      (starts : IsNextPlace (is_turn text first) (length text) (min rest (length text)) start) (ends : IsNextPlace (is_turn text first) (length text) (start + 1) end) where
    from_rest : IsNextPlace (is_turn text first) (length text) rest start
    from_rest =
        let high : min rest (length text) ≤ start = starts.high in
        let here : min rest (length text) ≡ rest = omega arith in
        subst (λ k. IsNextPlace (is_turn text first) (length text) k start) here starts

    not_blank : is_blank_or_newline (get_or text start 0) ≡ false
    not_blank =
        let high : rest ≤ start = from_rest.high in
        unset (is_behind_blank text first start) (is_blank_or_newline (get_or text start 0)) (starts.stops before)
        (still_behind text first rest start low true (behind (omega arith)) from_rest.none start high (omega arith))

    behind_start : is_behind_blank text first (start + 1) ≡ false
    behind_start =
        let high : rest ≤ start = from_rest.high in
        let place : start + 1 - 1 ≡ start = omega arith in
        behind_later text first (start + 1) (omega arith) ∙ (ap (λ k. is_blank_or_newline (get_or text k 0)) place ∙ not_blank)

    is_end : IsStretchEnd is_blank_or_newline text start end
    is_end =
        let high : rest ≤ start = from_rest.high in
        let further : start + 1 ≤ end = ends.high in
        record {
          high = omega arith;
          within = ends.within;
          none = λ k le lt. elim (cases_lt start k) [
            | inl more ↦ all_same text first (start + 1) end (omega arith) false behind_start ends.none k (omega arith) lt
            | inr less ↦ let same : start ≡ k = omega arith in ap (λ j. is_blank_or_newline (get_or text j 0)) (sym same) ∙ not_blank
          ];
          stops = λ lt.
              set (is_behind_blank text first end) (is_blank_or_newline (get_or text end 0)) (ends.stops lt)
              (still_behind text first (start + 1) end (omega arith) false behind_start ends.none end further (omega arith));
        }

    pub field_between : blank_pieces (drop rest text) ≡ slice_range text start end ∷ blank_pieces (drop (end + 1) text)
    field_between =
        let high : rest ≤ start = from_rest.high in
        next_blank_piece text rest start end
        (skipped text rest start high (omega arith) (all_same text first rest start low true (behind (omega arith)) from_rest.none))
        before not_blank is_end

    -- behind the field stands a blank, if the text goes on
    pub behind_field : end + 1 < length text → is_behind_blank text first (end + 1) ≡ true
    behind_field lt =
        let high : rest ≤ start = from_rest.high in
        let further : start + 1 ≤ end = ends.high in
        let place : end + 1 - 1 ≡ end = omega arith in
        behind_later text first (end + 1) (omega arith) ∙ (ap (λ k. is_blank_or_newline (get_or text k 0)) place ∙ is_end.stops (omega arith))

-- the turns behind the field
pub left_on : (text : List ℕ) (first end : ℕ) (left : Turns) → end ≤ length text → (end < length text → AreTurnsLeft text first (end + 1) left) → (end ≡ length text → AreTurnsLeft text first end left) →
    AreTurnsLeft text first (min (end + 1) (length text)) left
left_on text first end left le on ended = elim (cases_lt end (length text)) [
  | inl lt ↦ let place : end + 1 ≡ min (end + 1) (length text) = omega arith in subst (λ k. AreTurnsLeft text first k left) place (on lt)
  | inr ge ↦ let place : end ≡ min (end + 1) (length text) = omega arith in subst (λ k. AreTurnsLeft text first k left) place (ended (omega arith))
]
