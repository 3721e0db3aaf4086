-- The fields that were found, among all those of a text.
use Rattle.std.proofs.Common.{◌≡◌, ℕ, zero, suc, ◌<◌, ◌≤◌, ◌⊎◌, List, [], ◌∷◌, ◌++◌, length, get_or, None, Some, refl, sym, ◌∙◌, ap, subst, arith, append-nil, inl, inr}
use Rattle.std.specs.Prelude.{slice_get}
use Rattle.std.specs.Option.{option_map}
use Rattle.std.proofs.lemmas.List.{length-map}
use Rattle.std.proofs.lemmas.Bool.{cases_lt}
use Rattle.std.proofs.lemmas.List.Elements.{All-get_or}
use Rattle.std.proofs.lemmas.Option.{slice_get-map, slice_get-get_or, slice_get_past}
use Rattle.awk_text.specs.Pieces.{stretch_at, stretches_at, IsSpanOf, AreSpansOf}
use Rattle.awk_text.specs.Fields.{pieces_from_by, pieces_by}
use Rattle.awk_text.specs.Separators.{Rule}
use Rattle.awk_text.specs.declared.span.Span.{Span}
use Rattle.awk_record.specs.declared.fields.Fields.{Fields}
use Rattle.awk_record.specs.support.Found.{AreFieldsOf}

-- more fields were found, or none
pub found-more : (text : List ℕ) (old new : Fields) → AreFieldsOf text old → new.separator ≡ old.separator → (AreSpansOf text old.spans.items → AreSpansOf text new.spans.items) →
    stretches_at text new.spans.items ++ pieces_from_by old.separator text new.rest ≡ stretches_at text old.spans.items ++ pieces_from_by old.separator text old.rest → AreFieldsOf text new
found-more text old new is same within pieces = record {
  within = within is.within;
  pieces = subst (λ (r : Rule). stretches_at text new.spans.items ++ pieces_from_by r text new.rest ≡ pieces_by r text) (sym same) (pieces ∙ is.pieces);
}

pub found-same : (text : List ℕ) (old new : Fields) → AreFieldsOf text old → new.separator ≡ old.separator → new.spans.items ≡ old.spans.items → new.rest ≡ old.rest → AreFieldsOf text new
found-same text old new is same spans rest =
    let left = pieces_from_by old.separator text old.rest in
    found-more text old new is same (λ all. subst (AreSpansOf text) (sym spans) all)
    (ap (λ (place : ℕ). stretches_at text new.spans.items ++ pieces_from_by old.separator text place) rest ∙ ap (λ (xs : List Span). stretches_at text xs ++ left) spans)

slice_get-append : {X : Type 0} (xs ys : List X) (i : ℕ) → i < length xs → slice_get (xs ++ ys) i ≡ slice_get xs i
slice_get-append [] ys i lt = absurd (omega arith)
slice_get-append (x ∷ xs) ys zero lt = refl
slice_get-append (x ∷ xs) ys (suc i) lt = slice_get-append xs ys i (omega arith)

-- where all were found, they are the pieces
pub all-found : (text : List ℕ) (fields : Fields) → AreFieldsOf text fields → pieces_from_by fields.separator text fields.rest ≡ [] → pieces_by fields.separator text ≡ stretches_at text fields.spans.items
all-found text fields is none =
    sym is.pieces ∙ (ap (λ left. stretches_at text fields.spans.items ++ left) none ∙ append-nil (stretches_at text fields.spans.items))

-- the field at an index is known once it was found, or all were
pub field-found : (text : List ℕ) (fields : Fields) (i : ℕ) → AreFieldsOf text fields → (i < length fields.spans.items) ⊎ (pieces_from_by fields.separator text fields.rest ≡ []) →
    option_map (stretch_at text) (slice_get fields.spans.items i) ≡ slice_get (pieces_by fields.separator text) i
field-found text fields i is (inl lt) =
    let spans = fields.spans.items in
    let size : length (stretches_at text spans) ≡ length spans = length-map spans (stretch_at text) in
    sym (slice_get-map (stretch_at text) spans i)
    ∙ (sym (slice_get-append (stretches_at text spans) (pieces_from_by fields.separator text fields.rest) i (omega arith))
    ∙ ap (λ ps. slice_get ps i) is.pieces)
field-found text fields i is (inr none) =
    sym (slice_get-map (stretch_at text) fields.spans.items i) ∙ ap (λ ps. slice_get ps i) (sym (all-found text fields is none))

-- where all were found, they are as many as the pieces
pub all-counted : (text : List ℕ) (fields : Fields) → AreFieldsOf text fields → pieces_from_by fields.separator text fields.rest ≡ [] → length fields.spans.items ≡ length (pieces_by fields.separator text)
all-counted text fields is none =
    sym (length-map fields.spans.items (stretch_at text)) ∙ ap length (sym (all-found text fields is none))

-- no list has more places than there are numbers for them
pub count-found : (text : List ℕ) (fields : Fields) (most : ℕ) → AreFieldsOf text fields → (most < length fields.spans.items) ⊎ (pieces_from_by fields.separator text fields.rest ≡ []) →
    length fields.spans.items ≤ most → length fields.spans.items ≡ length (pieces_by fields.separator text)
count-found text fields most is (inl more) le = absurd (omega arith)
count-found text fields most is (inr none) le = all-counted text fields is none

-- what is at an index of the spans lies there
at_hand : (spans : List Span) (i : ℕ) (span : Span) → Some span ≡ slice_get spans i → (i < length spans) × (get_or spans i span ≡ span)
at_hand spans i span is = elim (cases_lt i (length spans)) [
  | inl lt ↦ let here : slice_get spans i ≡ Some (get_or spans i span) = slice_get-get_or spans i span lt in (lt, cc)
  | inr past ↦ let gone : slice_get spans i ≡ None = slice_get_past spans i past in cc
]

-- a span that was found is that of the field
pub field-at_hand : (text : List ℕ) (fields : Fields) (i : ℕ) (span : Span) → AreFieldsOf text fields → Some span ≡ slice_get fields.spans.items i →
    option_map (stretch_at text) (Some span) ≡ slice_get (pieces_by fields.separator text) i
field-at_hand text fields i span is here =
    ap (option_map (stretch_at text)) here ∙ field-found text fields i is (inl (at_hand fields.spans.items i span here).0)

pub span-at_hand : (text : List ℕ) (spans : List Span) (i : ℕ) (span : Span) → AreSpansOf text spans → Some span ≡ slice_get spans i → IsSpanOf text span
span-at_hand text spans i span all here =
    let at = at_hand spans i span here in
    subst (IsSpanOf text) at.1 (All-get_or (IsSpanOf text) spans i span at.0 all)

pub index-at_hand : (spans : List Span) (i : ℕ) (span : Span) → Some span ≡ slice_get spans i → i < length spans
index-at_hand spans i span here = (at_hand spans i span here).0
