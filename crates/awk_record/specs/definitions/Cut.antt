-- How what is left of an input is cut into its first record and what follows it.
-- POSIX awk, "Variables and Special Variables" (RS) and "Input Files".
use Rattle.std.specs.Prelude.{◌≡◌, ℕ, suc, ◌+◌, ◌-◌, slice_index, Bool, true, false, ◌&&◌, ◌==◌, nat_lt, if◌then◌else◌, List, [], ◌∷◌, ◌++◌, length, take, drop, Option, Some, None, ◌⊎◌}

-- how an input stops: at its end, or where it broke and can be read no further
pub data Ending : Type 0 where
  AtEnd : Ending
  AtBreak : Ending

pub data Cut : Type 0 where
  -- the first record, and what follows its separator
  Found : (first rest : List ℕ) → Cut
  -- the input has ended, and no record is left
  NoMore : Cut
  -- the input broke before the next record was whole
  BrokenOff : Cut
  -- the record, with what is skipped before it and its separator, has more than `longest` bytes
  TooLong : Cut

abbrev pub longest : ℕ
longest = 1073741824

abbrev pub begins_with : List ℕ → List ℕ → Bool
begins_with [] bytes = true
begins_with (w ∷ word) [] = false
begins_with (w ∷ word) (b ∷ bytes) = b == w && begins_with word bytes

abbrev pub one_later : Option ℕ → Option ℕ
one_later (Some i) = Some (suc i)
one_later None = None

-- the first place at which the word stands
abbrev pub first_at : List ℕ → List ℕ → Option ℕ
first_at word [] = None
first_at word (b ∷ bytes) = if begins_with word (b ∷ bytes) then Some 0 else one_later (first_at word bytes)

-- the cut, unless its stretch of so many bytes is too long
abbrev pub limited : ℕ → Cut → Cut
limited stretch cut = if nat_lt longest stretch then TooLong else cut

-- bytes with no separator among them are the last record, unless there are none or the input broke
abbrev pub unfinished : (List ℕ → List ℕ) → List ℕ → Ending → Cut
unfinished trim bytes AtBreak = BrokenOff
unfinished trim [] AtEnd = NoMore
unfinished trim (b ∷ bytes) AtEnd = Found (trim (b ∷ bytes)) []

-- the cut where the separator `word` stands first at this place, behind so many skipped bytes
abbrev pub cut_at : Option ℕ → ℕ → List ℕ → (List ℕ → List ℕ) → List ℕ → Ending → Cut
cut_at (Some i) skipped word trim bytes ending =
    limited (skipped + (i + length word)) (Found (take i bytes) (drop (i + length word) bytes))
cut_at None skipped word trim bytes ending = limited (skipped + length bytes) (unfinished trim bytes ending)

abbrev pub cut_behind : ℕ → List ℕ → (List ℕ → List ℕ) → List ℕ → Ending → Cut
cut_behind skipped word trim bytes ending = cut_at (first_at word bytes) skipped word trim bytes ending

-- how many newlines stand in front
abbrev pub newlines : List ℕ → ℕ
newlines [] = 0
newlines (b ∷ bytes) = if b == 10 then suc (newlines bytes) else 0

-- the bytes without one newline at their end
abbrev pub without_newline : List ℕ → List ℕ
without_newline bytes = if slice_index bytes (length bytes - 1) == 10 then take (length bytes - 1) bytes else bytes

-- what is left of an input, cut by a record separator: one of one or more bytes stands behind each record, which goes up to its
-- first place; the standard leaves one of two or more bytes unspecified. Under an empty one leading newlines are skipped, and two
-- newlines in a row, or the end with a newline before it, end a record
abbrev pub cut_of : (separator bytes : List ℕ) → Ending → Cut
cut_of [] bytes ending = cut_behind (newlines bytes) (10 ∷ 10 ∷ []) without_newline (drop (newlines bytes) bytes) ending
cut_of (c ∷ separator) bytes ending = cut_behind 0 (c ∷ separator) (λ b. b) bytes ending

-- these bytes settle what the first record is, whatever follows them and however the input stops
abbrev pub IsDecided : (separator bytes : List ℕ) → Type 0
IsDecided separator bytes =
    ((first rest : List ℕ) × ((more : List ℕ) (ending : Ending) → cut_of separator (bytes ++ more) ending ≡ Found first (rest ++ more)))
    ⊎ ((more : List ℕ) (ending : Ending) → cut_of separator (bytes ++ more) ending ≡ TooLong)
