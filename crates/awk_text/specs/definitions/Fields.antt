-- The fields that a separator leaves of a text. POSIX awk, "Regular Expressions", the rules on FS, and "Variables and
-- Special Variables", RS: where it is empty, a newline separates fields too, whatever FS is. An empty text has no fields.
use Rattle.std.specs.Prelude.{◌≡◌, ◌+◌, ◌<◌, ◌≤◌, ℕ, Bool, true, false, ◌||◌, not, ◌==◌, nat_lt, if◌then◌else◌, List, [], ◌∷◌, length, map, drop, slice_range, Option, None, Some}
use Rattle.std.specs.List.{filter, slice_split, All}
use Rattle.awk_ere.specs.definitions.Tree.{Tree}
use Rattle.awk_text.specs.definitions.Pieces.{blank_pieces, stretch_at, IsSpanOf}
use Rattle.awk_text.specs.declared.span.Span.{Span}
use Rattle.awk_text.specs.declared.span.FoundField.{FoundField}
use Rattle.awk_text.specs.definitions.Separators.{Separator, blanks, byte, each, ere, Rule, separator_by, or_newline}
use Rattle.awk_text.specs.support.ChosenSeparators.{separators_from}

-- whether a byte stands between fields, where one byte or a newline too does
abbrev pub separates : (b : ℕ) (newline_too : Bool) → ℕ → Bool
separates b false other = other == b
separates b true other = other == b || other == 10

-- none of these bytes is of a kind
abbrev pub HoldsNone : (ℕ → Bool) → List ℕ → Type 0
HoldsNone test bytes = All (λ b. test b ≡ false) bytes

-- what stands in front of, between and behind the bytes of a kind; an empty text has no piece
abbrev pub kind_pieces : (ℕ → Bool) → (text : List ℕ) → List (List ℕ)
kind_pieces test [] = []
kind_pieces test (first ∷ text) = slice_split test (first ∷ text)

-- whether a byte is a field where each one is, but newlines where they separate
abbrev pub is_field : (newline_too : Bool) → ℕ → Bool
is_field false b = true
is_field true b = not (b == 10)

abbrev pub each_piece : (newline_too : Bool) (text : List ℕ) → List (List ℕ)
each_piece newline_too text = map (λ b. b ∷ []) (filter (is_field newline_too) text)

-- what stands from a place on in front of, between and behind these stretches
abbrev pub between : (text : List ℕ) (place : ℕ) → List Span → List (List ℕ)
between text place [] = drop place text ∷ []
between text place (m ∷ ms) = slice_range text place m.start ∷ between text m.end ms

-- what stands in front of, between and behind the separators that an ERE chooses; an empty text has no piece
abbrev pub ere_pieces : Tree → (text : List ℕ) → List (List ℕ)
ere_pieces t [] = []
ere_pieces t (first ∷ text) = between (first ∷ text) 0 (separators_from t (first ∷ text) 0)

abbrev pub pieces_of : Separator → (newline_too : Bool) → (text : List ℕ) → List (List ℕ)
pieces_of blanks newline_too text = blank_pieces text
pieces_of (byte b) newline_too text = kind_pieces (separates b newline_too) text
pieces_of each newline_too text = each_piece newline_too text
pieces_of (ere t) newline_too text = ere_pieces (or_newline newline_too t) text

-- the same from a place on; past the end nothing stands
abbrev pub split_from : (test : ℕ → Bool) (text : List ℕ) (place : ℕ) → List (List ℕ)
split_from test text place = if nat_lt (length text) place then [] else slice_split test (drop place text)

abbrev pub kind_pieces_from : (ℕ → Bool) → (text : List ℕ) (place : ℕ) → List (List ℕ)
kind_pieces_from test [] place = []
kind_pieces_from test (first ∷ text) place = split_from test (first ∷ text) place

abbrev pub ere_pieces_from : Tree → (text : List ℕ) (place : ℕ) → List (List ℕ)
ere_pieces_from t [] place = []
ere_pieces_from t (first ∷ text) place =
    if nat_lt (length (first ∷ text)) place then []
    else between (first ∷ text) place (separators_from t (first ∷ text) place)

-- the pieces from a place on where one may begin, which is the front of the text, or right behind a separator or the end
abbrev pub pieces_from : Separator → (newline_too : Bool) → (text : List ℕ) (place : ℕ) → List (List ℕ)
pieces_from blanks newline_too text place = blank_pieces (drop place text)
pieces_from (byte b) newline_too text place = kind_pieces_from (separates b newline_too) text place
pieces_from each newline_too text place = each_piece newline_too (drop place text)
pieces_from (ere t) newline_too text place = ere_pieces_from (or_newline newline_too t) text place

abbrev pub pieces_by : Rule → (text : List ℕ) → List (List ℕ)
pieces_by rule text = pieces_of (separator_by rule) rule.newline_too text

abbrev pub pieces_from_by : Rule → (text : List ℕ) (place : ℕ) → List (List ℕ)
pieces_from_by rule text place = pieces_from (separator_by rule) rule.newline_too text place

-- the next piece from a place on, and the place from which on those behind it stand; or nothing, where no piece is left
abbrev pub IsNextPiece : (pieces : ℕ → List (List ℕ)) → (text : List ℕ) → (place : ℕ) → Option FoundField → Type 0
IsNextPiece pieces text place None = pieces place ≡ []
IsNextPiece pieces text place (Some found) = pieces place ≡ stretch_at text found.span ∷ pieces found.rest

-- it lies within the text, and what is left begins behind the place
abbrev pub IsFurther : (text : List ℕ) → (place : ℕ) → FoundField → Type 0
IsFurther text place found = IsSpanOf text found.span × (place < found.rest) × (found.rest ≤ length text + 1)
