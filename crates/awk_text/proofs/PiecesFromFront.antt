-- The pieces of a text, read off from its front.
use Rattle.std.proofs.Common.{◌≡◌, ◌≢◌, ℕ, Bool, true, List, [], ◌∷◌, ◌++◌, refl, sym, ◌∙◌, ap, append-nil}
use Rattle.std.specs.List.{filter, slice_split}
use Rattle.std.proofs.lemmas.List.Elements.{All-head, All-tail}
use Rattle.std.proofs.lemmas.List.Splits.{slice_split-cons_yes, slice_split_none, slice_split_at}
use Rattle.awk_text.specs.definitions.Pieces.{AreBlank, IsPiece, is_blank_or_newline, is_full, blank_pieces}
use Rattle.awk_text.specs.definitions.Fields.{HoldsNone, kind_pieces}

-- blanks in front are skipped
blank_pieces-gap : (gap text : List ℕ) → AreBlank gap → blank_pieces (gap ++ text) ≡ blank_pieces text
blank_pieces-gap [] text blank = refl
blank_pieces-gap (b ∷ gap) text blank =
    let first = slice_split-cons_yes is_blank_or_newline b (gap ++ text) (All-head (λ (x : ℕ). is_blank_or_newline x ≡ true) b gap blank) in
    ap (filter is_full) first ∙ blank_pieces-gap gap text (All-tail (λ (x : ℕ). is_blank_or_newline x ≡ true) b gap blank)

piece_first : (piece : List ℕ) (pieces : List (List ℕ)) → piece ≢ [] → filter is_full (piece ∷ pieces) ≡ piece ∷ filter is_full pieces
piece_first [] pieces some = absurd (some refl)
piece_first (b ∷ piece) pieces some = refl

pub blank_pieces-none : (gap : List ℕ) → AreBlank gap → blank_pieces gap ≡ []
blank_pieces-none gap blank = ap blank_pieces (sym (append-nil gap)) ∙ blank_pieces-gap gap [] blank

pub blank_pieces-last : (gap piece : List ℕ) → AreBlank gap → IsPiece piece → blank_pieces (gap ++ piece) ≡ piece ∷ []
blank_pieces-last gap piece blank is =
    blank_pieces-gap gap piece blank ∙ (ap (filter is_full) (slice_split_none is_blank_or_newline piece is.1) ∙ piece_first piece [] is.0)

pub blank_pieces-next : (gap piece : List ℕ) (b : ℕ) (rest : List ℕ) → AreBlank gap → IsPiece piece → is_blank_or_newline b ≡ true → blank_pieces (gap ++ (piece ++ b ∷ rest)) ≡ piece ∷ blank_pieces rest
blank_pieces-next gap piece b rest blank is ends =
    blank_pieces-gap gap (piece ++ b ∷ rest) blank ∙ (ap (filter is_full) (slice_split_at is_blank_or_newline piece b rest is.1 ends) ∙ piece_first piece (slice_split is_blank_or_newline rest) is.0)

-- a text that isn't empty is split at each byte of a kind
module _ (test : ℕ → Bool) where
  kind_pieces-some : (text : List ℕ) → text ≢ [] → kind_pieces test text ≡ slice_split test text
  kind_pieces-some [] some = absurd (some refl)
  kind_pieces-some (first ∷ text) some = refl

  append_some : (front : List ℕ) (b : ℕ) (rest : List ℕ) → front ++ b ∷ rest ≢ []
  append_some [] b rest is = cc
  append_some (first ∷ front) b rest is = cc

  -- the first of them ends the first stretch
  kind_pieces-found : (piece : List ℕ) (b : ℕ) (rest : List ℕ) → HoldsNone test piece → test b ≡ true → kind_pieces test (piece ++ b ∷ rest) ≡ piece ∷ slice_split test rest
  kind_pieces-found piece b rest none ends = kind_pieces-some (piece ++ b ∷ rest) (append_some piece b rest) ∙ slice_split_at test piece b rest none ends

  pub kind_pieces-last : (piece : List ℕ) → HoldsNone test piece → piece ≢ [] → kind_pieces test piece ≡ piece ∷ []
  kind_pieces-last piece none some = kind_pieces-some piece some ∙ slice_split_none test piece none

  pub kind_pieces-next : (piece : List ℕ) (b : ℕ) (rest : List ℕ) → HoldsNone test piece → test b ≡ true → rest ≢ [] → kind_pieces test (piece ++ b ∷ rest) ≡ piece ∷ kind_pieces test rest
  kind_pieces-next piece b rest none ends some = kind_pieces-found piece b rest none ends ∙ ap (λ pieces. piece ∷ pieces) (sym (kind_pieces-some rest some))

  pub kind_pieces-end : (piece : List ℕ) (b : ℕ) → HoldsNone test piece → test b ≡ true → kind_pieces test (piece ++ b ∷ []) ≡ piece ∷ [] ∷ []
  kind_pieces-end piece b none ends = kind_pieces-found piece b [] none ends
