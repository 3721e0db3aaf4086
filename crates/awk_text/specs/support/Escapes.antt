-- What stands in front of a replacement, and replacements that stand for themselves.
use Rattle.std.specs.Prelude.{◌≡◌, ℕ, ◌+◌, ◌<◌, Bool, false, List, [], ◌∷◌, ◌++◌, length, take, drop}
use Rattle.awk_text.specs.declared.replacement.Shape.{Shape}
use Rattle.awk_text.specs.declared.replacement.Shape.TheVariants as shape
use Rattle.awk_text.specs.definitions.Replacement.{is_escape, replacement_for}

-- an escape stands in front
abbrev pub escapes : List ℕ → Bool
escapes [] = false
escapes (byte ∷ []) = false
escapes (byte ∷ next ∷ rest) = is_escape byte next

-- the replacement is the same, whatever was matched
abbrev pub IsPlain : List ℕ → Type 0
IsPlain replacement = (matched : List ℕ) → replacement_for replacement matched ≡ replacement

-- in a replacement the matched text stands for the byte at a place, and each other byte for itself
pub record IsAround (replacement : List ℕ) (place : ℕ) : Type 0 where
  pub within : place < length replacement
  pub each : (matched : List ℕ) → replacement_for replacement matched ≡ take place replacement ++ (matched ++ drop (place + 1) replacement)

-- the replacement is made of this
abbrev pub IsOfShape : List ℕ → Shape → Type 0
IsOfShape replacement shape.Plain = IsPlain replacement
IsOfShape replacement (shape.Around place) = IsAround replacement place
IsOfShape replacement shape.Written = Unit {0}
