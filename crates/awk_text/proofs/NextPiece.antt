-- The next piece of a text, from a place on where one may begin.
use Rattle.std.proofs.Common.{◌≡◌, ℕ, zero, suc, ◌+◌, ◌-◌, ◌<◌, ◌≤◌, Bool, true, false, List, [], ◌∷◌, length, take, drop, get_or, refl, sym, ◌∙◌, ap, arith, inl, inr}
use Rattle.std.specs.Prelude.{slice_range}
use Rattle.std.specs.List.{filter, slice_split, onto_first}
use Rattle.std.proofs.lemmas.Bool.{cases_lt, cond-true, cond-false, lt-ltb, le-ltb, false≢true}
use Rattle.std.proofs.lemmas.List.{drop_all, get_or-drop, length-drop, length-take-le, drop-drop, take_rest}
use Rattle.std.proofs.lemmas.List.Splits.{slice_split-cons_yes, slice_split-cons_no}
use Rattle.awk_text.specs.definitions.Pieces.{is_blank_or_newline, is_full, blank_pieces}
use Rattle.awk_text.specs.definitions.Fields.{split_from}
use Rattle.awk_text.specs.support.Stretch.{IsStretchEnd}

-- up to the first element that passes, and behind it
slice_split-first : (test : ℕ → Bool) (text : List ℕ) (i : ℕ) → i < length text → ((k : ℕ) → k < i → test (get_or text k 0) ≡ false) → test (get_or text i 0) ≡ true →
    slice_split test text ≡ take i text ∷ slice_split test (drop (suc i) text)
slice_split-first test [] i lt fails holds = absurd (omega arith)
slice_split-first test (x ∷ text) zero lt fails holds = slice_split-cons_yes test x text holds
slice_split-first test (x ∷ text) (suc i) lt fails holds =
    slice_split-cons_no test x text (fails 0 (omega arith))
    ∙ ap (onto_first x) (slice_split-first test text i (omega arith) (λ k less. fails (suc k) (omega arith)) holds)

slice_split-none : (test : ℕ → Bool) (text : List ℕ) → ((k : ℕ) → k < length text → test (get_or text k 0) ≡ false) → slice_split test text ≡ text ∷ []
slice_split-none test [] fails = refl
slice_split-none test (x ∷ text) fails =
    slice_split-cons_no test x text (fails 0 (omega arith))
    ∙ ap (onto_first x) (slice_split-none test text (λ k less. fails (suc k) (omega arith)))

-- what stands from a place on within the text, and past its end
pub split_from-within : (test : ℕ → Bool) (text : List ℕ) (place : ℕ) → place ≤ length text → split_from test text place ≡ slice_split test (drop place text)
split_from-within test text place le = cond-false _ _ _ (le-ltb (length text) place le)

pub split_from-past : (test : ℕ → Bool) (text : List ℕ) (place : ℕ) → length text < place → split_from test text place ≡ []
split_from-past test text place lt = cond-true _ _ _ (lt-ltb (length text) place lt)

-- none of the bytes from here to the end is of the kind
behind_fails : (test : ℕ → Bool) (text : List ℕ) (from end : ℕ) → IsStretchEnd test text from end → (k : ℕ) → k < end - from → test (get_or (drop from text) k 0) ≡ false
behind_fails test text from end is k less = ap test (get_or-drop from text k 0) ∙ is.none (from + k) (omega arith) (omega (arith, is.high))

-- the stretch up to its end, and what stands behind it
pub split_from-stretch : (test : ℕ → Bool) (text : List ℕ) (from end : ℕ) → IsStretchEnd test text from end → slice_split test (drop from text) ≡ slice_range text from end ∷ split_from test text (end + 1)
split_from-stretch test text from end is =
    let rest = drop from text in
    let size : length rest ≡ length text - from = length-drop from text in
    let high : from ≤ end = is.high in
    let within : end ≤ length text = is.within in
    let fails = behind_fails test text from end is in
    elim (cases_lt end (length text)) [
      | inl lt ↦
          let place : from + (end - from) ≡ end = omega arith in
          let here : test (get_or rest (end - from) 0) ≡ true = ap test (get_or-drop from text (end - from) 0 ∙ ap (λ k. get_or text k 0) place) ∙ is.stops lt in
          let less : end - from < length rest = omega arith in
          let behind : drop (suc (end - from)) rest ≡ drop (end + 1) text = drop-drop (suc (end - from)) from text ∙ ap (λ k. drop k text) (omega arith) in
          slice_split-first test rest (end - from) less fails here
          ∙ ap (λ r. slice_range text from end ∷ r) (ap (slice_split test) behind ∙ sym (split_from-within test text (end + 1) (omega arith)))
      | inr le ↦
          let equal : end ≡ length text = omega arith in
          let all = slice_split-none test rest (λ k less. fails k (omega arith)) in
          let whole : rest ≡ slice_range text from end = sym (take_rest text from) ∙ ap (slice_range text from) (sym equal) in
          all ∙ (ap (λ r. r ∷ []) whole ∙ ap (λ r. slice_range text from end ∷ r) (sym (split_from-past test text (end + 1) (omega arith))))
    ]

-- between blanks the place may lie anywhere
blank_pieces-from : (text : List ℕ) (place : ℕ) → filter is_full (split_from is_blank_or_newline text place) ≡ blank_pieces (drop place text)
blank_pieces-from text place = elim (cases_lt (length text) place) [
  | inl lt ↦ ap (filter is_full) (split_from-past is_blank_or_newline text place lt) ∙ sym (ap blank_pieces (drop_all place text (omega arith)))
  | inr le ↦ ap (filter is_full) (split_from-within is_blank_or_newline text place le)
]

pub blank_pieces-past : (text : List ℕ) (place : ℕ) → length text ≤ place → blank_pieces (drop place text) ≡ []
blank_pieces-past text place le = ap blank_pieces (drop_all place text le)

is_full_some : (bytes : List ℕ) → 0 < length bytes → is_full bytes ≡ true
is_full_some [] lt = absurd (omega arith)
is_full_some (x ∷ xs) lt = refl

-- a stretch that begins with no blank is a piece
pub next_blank_piece : (text : List ℕ) (from start end : ℕ) → blank_pieces (drop from text) ≡ blank_pieces (drop start text) → start < length text → is_blank_or_newline (get_or text start 0) ≡ false → IsStretchEnd is_blank_or_newline text start end →
    blank_pieces (drop from text) ≡ slice_range text start end ∷ blank_pieces (drop (end + 1) text)
next_blank_piece text from start end skipped lt fails is =
    let high : start ≤ end = is.high in
    let within : end ≤ length text = is.within in
    let further : start < end = elim (cases_lt start end) [
      | inl less ↦ less
      | inr le ↦
          let same : end ≡ start = omega arith in
          let holds : is_blank_or_newline (get_or text start 0) ≡ true = ap (λ k. is_blank_or_newline (get_or text k 0)) (sym same) ∙ is.stops (omega arith) in
          absurd (false≢true (sym fails ∙ holds))
    ] in
    let size : length (slice_range text start end) ≡ end - start = length-take-le (end - start) (drop start text) (omega (arith, length-drop start text)) in
    let full = is_full_some (slice_range text start end) (omega arith) in
    skipped
    ∙ (ap (filter is_full) (split_from-stretch is_blank_or_newline text start end is)
    ∙ (cond-true _ _ _ full ∙ ap (λ pieces. slice_range text start end ∷ pieces) (blank_pieces-from text (end + 1))))
