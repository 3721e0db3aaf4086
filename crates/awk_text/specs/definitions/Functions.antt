-- What the functions of texts give. POSIX awk, "String Functions": positions are counted from 1.
use Rattle.std.specs.Prelude.{◌≡◌, ◌<◌, ◌+◌, ℕ, ℤ, pos, negsuc, ◌+ℤ◌, ◌-ℤ◌, List, length, drop, map, slice_range, Option, Some, None}
use Rattle.std.specs.Char.{to_ascii_lowercase, to_ascii_uppercase}
use Rattle.memchr.specs.Find.{OccursAt}

-- the number, or 0 for one below it
abbrev pub not_negative : ℤ → ℕ
not_negative (pos n) = n
not_negative (negsuc n) = 0

-- how many positions of any text lie before this one
abbrev pub positions_before : ℤ → ℕ
positions_before position = not_negative (position -ℤ pos 1)

-- the bytes at the positions that exist from `start` on, or at `count` positions from there
abbrev pub substr_of : (text : List ℕ) (start : ℤ) (count : Option ℤ) → List ℕ
substr_of text start None = drop (positions_before start) text
substr_of text start (Some count) = slice_range text (positions_before start) (positions_before (start +ℤ count))

-- the first position where the part stands in the text, or 0 where it doesn't; the empty part stands nowhere
pub record IsPositionOf (part text : List ℕ) (position : ℕ) : Type 0 where
  pub stands : (before : ℕ) → position ≡ before + 1 →
      (0 < length part) × OccursAt text part before × ((i : ℕ) → i < before → OccursAt text part i → ⊥)
  pub absent : position ≡ 0 → 0 < length part → (i : ℕ) → OccursAt text part i → ⊥

-- with each capital letter as the small one, and the other way round; ASCII has 26 of each
abbrev pub lower_of : List ℕ → List ℕ
lower_of text = map to_ascii_lowercase text

abbrev pub upper_of : List ℕ → List ℕ
upper_of text = map to_ascii_uppercase text
