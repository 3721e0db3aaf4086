-- The pieces that blanks leave of a text, and the spans that name pieces. POSIX awk, "Regular Expressions", the rules on
-- FS: by default fields are separated by runs of blanks and newlines, and those in front and behind are ignored.
use Rattle.std.specs.Prelude.{◌≡◌, ◌≢◌, ℕ, ◌≤◌, Bool, true, false, ◌||◌, ◌==◌, List, [], ◌∷◌, length, map, slice_range}
use Rattle.std.specs.List.{filter, slice_split, All, AllPass}
use Rattle.awk_text.specs.declared.span.Span.{Span}

-- a space, a tab or a newline
abbrev pub is_blank_or_newline : ℕ → Bool
is_blank_or_newline byte = byte == 32 || (byte == 9 || byte == 10)

abbrev pub is_full : List ℕ → Bool
is_full [] = false
is_full (byte ∷ bytes) = true

-- the longest stretches without a blank, in their order: what stands between the blanks, if there is a byte in it
abbrev pub blank_pieces : (text : List ℕ) → List (List ℕ)
blank_pieces text = filter is_full (slice_split is_blank_or_newline text)

abbrev pub AreBlank : List ℕ → Type 0
AreBlank bytes = AllPass is_blank_or_newline bytes

-- some bytes, and no blank
abbrev pub IsPiece : List ℕ → Type 0
IsPiece bytes = (bytes ≢ []) × All (λ byte. is_blank_or_newline byte ≡ false) bytes

-- the bytes that a span names
abbrev pub stretch_at : (text : List ℕ) → Span → List ℕ
stretch_at text span = slice_range text span.start span.end

abbrev pub stretches_at : (text : List ℕ) → List Span → List (List ℕ)
stretches_at text spans = map (stretch_at text) spans

-- it lies within the text
abbrev pub IsSpanOf : (text : List ℕ) → Span → Type 0
IsSpanOf text span = (span.start ≤ span.end) × (span.end ≤ length text)

abbrev pub AreSpansOf : (text : List ℕ) → List Span → Type 0
AreSpansOf text spans = All (IsSpanOf text) spans
