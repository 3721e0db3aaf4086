-- The next piece of a text, from a place on where one may begin.
use Rattle.std.proofs.Common.{◌≡◌, ℕ, ◌+◌, ◌-◌, ◌<◌, ◌≤◌, Bool, List, [], ◌∷◌, length, take, drop, get_or, Some, None, eqb, false, refl, sym, ◌∙◌, ap, subst, arith, inl, inr}
use Rattle.std.specs.Prelude.{slice_range}
use Rattle.std.proofs.lemmas.Bool.{cases_lt, cond-true, cond-false, eq-eqb, false≢true, lt-ltb, le-ltb}
use Rattle.std.proofs.lemmas.List.{at_drop_more, drop_all, take_rest}
use Rattle.awk_ere.specs.definitions.Tree.{Tree}
use Rattle.awk_ere.specs.definitions.Desugared.{IsOrdered}
use Rattle.awk_text.specs.definitions.Pieces.{blank_pieces}
use Rattle.awk_text.specs.support.Stretch.{IsStretchEnd, is_kind_at}
use Rattle.awk_text.specs.support.MarksLeft.{IsNextPlace}
use Rattle.awk_text.specs.declared.span.Span.{Span}
use Rattle.awk_text.proofs.NextPiece.{split_from-within, split_from-past, split_from-stretch}
use Rattle.awk_text.specs.definitions.Separators.{Separator, blanks, byte, each, ere, or_newline, IsNextSeparator}
use Rattle.awk_text.specs.definitions.Fields.{separates, kind_pieces_from, each_piece, between, ere_pieces_from, pieces_of, pieces_from}
use Rattle.awk_text.specs.support.ChosenSeparators.{separators_from}
use Rattle.awk_text.proofs.ChosenSeparators.{from_found, from_nothing}

-- at the bytes of a kind, each stretch is a piece, if the text has a byte
pub next_kind_piece : (test : ℕ → Bool) (text : List ℕ) (from end : ℕ) → 0 < length text → IsStretchEnd test text from end →
    kind_pieces_from test text from ≡ slice_range text from end ∷ kind_pieces_from test text (end + 1)
next_kind_piece test [] from end lt is = absurd (omega arith)
next_kind_piece test (first ∷ text) from end lt is =
    split_from-within test (first ∷ text) from (omega (arith, is.high, is.within)) ∙ split_from-stretch test (first ∷ text) from end is

-- the same, where the next place of such a byte was found
pub next_kind_field : (kind : ℕ → Bool) (text : List ℕ) (rest start end : ℕ) → eqb (length text) 0 ≡ false → start ≡ rest → IsNextPlace (is_kind_at kind text) (length text) start end →
    kind_pieces_from kind text rest ≡ slice_range text start end ∷ kind_pieces_from kind text (end + 1)
next_kind_field kind text rest start end some here is =
    let less : 0 < length text = elim (cases_lt 0 (length text)) [
      | inl lt ↦ lt
      | inr le ↦ absurd (false≢true (sym some ∙ eq-eqb (length text) 0 (omega arith)))
    ] in
    subst (λ k. kind_pieces_from kind text k ≡ slice_range text start end ∷ kind_pieces_from kind text (end + 1)) here
    (next_kind_piece kind text start end less (record { high = is.high; within = is.within; none = is.none; stops = is.stops }))

pub no_kind_piece : (test : ℕ → Bool) (text : List ℕ) (from : ℕ) → length text < from → kind_pieces_from test text from ≡ []
no_kind_piece test [] from lt = refl
no_kind_piece test (first ∷ text) from lt = split_from-past test (first ∷ text) from lt

one_byte : (text : List ℕ) (i : ℕ) → i < length text → slice_range text i (i + 1) ≡ get_or text i 0 ∷ []
one_byte text i lt =
    let one : i + 1 - i ≡ 1 = omega arith in
    ap (λ k. take k (drop i text)) one ∙ at_drop_more (take 1) text i 0 lt

pub each_ends : (newline_too : Bool) (text : List ℕ) (i : ℕ) → length text ≤ i → each_piece newline_too (drop i text) ≡ []
each_ends n text i le = ap (each_piece n) (drop_all i text le)

-- between matches, up to the next one and behind it, or up to the end
module _ (t : Tree) where
  ere_within : (text : List ℕ) (place : ℕ) → 0 < length text → place ≤ length text → ere_pieces_from t text place ≡ between text place (separators_from t text place)
  ere_within [] place lt le = absurd (omega arith)
  ere_within (first ∷ text) place lt le = cond-false _ _ _ (le-ltb (length (first ∷ text)) place le)

  pub ere_past : (text : List ℕ) (place : ℕ) → length text < place → ere_pieces_from t text place ≡ []
  ere_past [] place lt = refl
  ere_past (first ∷ text) place lt = cond-true _ _ _ (lt-ltb (length (first ∷ text)) place lt)

  pub ere_found : (text : List ℕ) (place : ℕ) (m : Span) → IsOrdered t → 0 < length text → place ≤ length text → IsNextSeparator t text place (Some m) → ere_pieces_from t text place ≡ slice_range text place m.start ∷ ere_pieces_from t text m.end
  ere_found text place m ordered lt le next =
      let within = next.0.within in
      ere_within text place lt le ∙ (ap (between text place) (from_found t text ordered place m next) ∙ ap (λ ps. slice_range text place m.start ∷ ps) (sym (ere_within text m.end lt within)))

  pub ere_ends : (text : List ℕ) (place : ℕ) → IsOrdered t → 0 < length text → place ≤ length text → IsNextSeparator t text place None → ere_pieces_from t text place ≡ slice_range text place (length text) ∷ ere_pieces_from t text (length text + 1)
  ere_ends text place ordered lt le none =
      ere_within text place lt le ∙ (ap (between text place) (from_nothing t text ordered place none)
      ∙ (ap (λ p. p ∷ []) (sym (take_rest text place)) ∙ ap (λ ps. slice_range text place (length text) ∷ ps) (sym (ere_past text (length text + 1) (omega arith)))))

-- from the front on they are all the pieces
pub pieces_from-front : (separator : Separator) (newline_too : Bool) (text : List ℕ) → pieces_from separator newline_too text 0 ≡ pieces_of separator newline_too text
pieces_from-front blanks n text = refl
pieces_from-front (byte b) n [] = refl
pieces_from-front (byte b) n (first ∷ text) = split_from-within (separates b n) (first ∷ text) 0 (omega arith)
pieces_from-front each n text = refl
pieces_from-front (ere t) n [] = refl
pieces_from-front (ere t) n (first ∷ text) = ere_within (or_newline n t) (first ∷ text) 0 (omega arith) (omega arith)

pub pieces_from-past : (separator : Separator) (newline_too : Bool) (text : List ℕ) (place : ℕ) → length text < place → pieces_from separator newline_too text place ≡ []
pieces_from-past blanks n text place lt = ap blank_pieces (drop_all place text (omega arith))
pieces_from-past (byte b) n text place lt = no_kind_piece (separates b n) text place lt
pieces_from-past each n text place lt = each_ends n text place (omega arith)
pieces_from-past (ere t) n text place lt = ere_past (or_newline n t) text place lt
