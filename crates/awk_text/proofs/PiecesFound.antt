-- The pieces that were found, and those that are still to be found.
use Rattle.std.proofs.Common.{◌≡◌, ℕ, List, [], ◌∷◌, ◌++◌, sym, ap, subst, ◌∙◌, append_assoc}
use Rattle.std.proofs.lemmas.List.{map-append}
use Rattle.std.proofs.lemmas.List.Elements.{All-push}
use Rattle.awk_text.specs.declared.span.Span.{Span}
use Rattle.awk_text.specs.definitions.Pieces.{stretch_at, stretches_at, IsSpanOf, AreSpansOf}

-- the next piece goes to those so far
pub pieces_more : (text : List ℕ) (spans new : List Span) (span : Span) (here rest whole : List (List ℕ)) → new ≡ spans ++ span ∷ [] → here ≡ stretch_at text span ∷ rest
    → stretches_at text spans ++ here ≡ whole → stretches_at text new ++ rest ≡ whole
pieces_more text spans new span here rest whole e is so_far = rw (e, map-append, append_assoc) (rw is at so_far)

-- where none is left, none stands further on
pub pieces_ended : (text : List ℕ) (spans : List Span) (here rest whole : List (List ℕ)) → here ≡ [] → rest ≡ []
    → stretches_at text spans ++ here ≡ whole → stretches_at text spans ++ rest ≡ whole
pieces_ended text spans here rest whole none ended so_far = ap (λ ps. stretches_at text spans ++ ps) (ended ∙ sym none) ∙ so_far

pub spans_more : (text : List ℕ) (spans new : List Span) (span : Span) → new ≡ spans ++ span ∷ [] → IsSpanOf text span → AreSpansOf text spans → AreSpansOf text new
spans_more text spans new span e one all = subst (AreSpansOf text) (sym e) (All-push (IsSpanOf text) spans span all one)
