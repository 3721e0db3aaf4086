-- A text with its matches replaced, and how many these are. POSIX awk, "String Functions": gsub and sub.
use Rattle.std.specs.Prelude.{◌≡◌, ◌<◌, ℕ, Bool, List, [], ◌∷◌, ◌++◌, length, drop, slice_range, Option, None, Some}
use Rattle.awk_text.specs.declared.span.Span.{Span}
use Rattle.awk_text.specs.definitions.Pieces.{stretch_at}
use Rattle.awk_ere.specs.definitions.Tree.{Tree}
use Rattle.awk_text.specs.declared.substitution.Substitution.{Substitution}
use Rattle.awk_text.specs.definitions.Chosen.{AreChosen}
use Rattle.awk_text.specs.definitions.Replacement.{replacement_for}

-- the text from a place on, with the replacement in the place of each match
abbrev pub replaced_from : (replacement text : List ℕ) (place : ℕ) → List Span → List ℕ
replaced_from replacement text place [] = drop place text
replaced_from replacement text place (m ∷ ms) =
    slice_range text place m.start
    ++ (replacement_for replacement (stretch_at text m) ++ replaced_from replacement text m.end ms)

-- so many matches are replaced, all or the first alone, and this is the text then
pub record Replaced (pattern : Tree) (replacement text : List ℕ) (all : Bool) (count : ℕ) (replaced : List ℕ) : Type 0 where
  pub matches : List Span
  pub chosen : AreChosen all pattern text matches
  pub counted : count ≡ length matches
  pub bytes : replaced ≡ replaced_from replacement text 0 matches

-- how many matches are replaced, if there are any; else the text is as it was
abbrev pub Replaces : Tree → (replacement text : List ℕ) → (all : Bool) → (count : Option ℕ) → (replaced : List ℕ) → Type 0
Replaces pattern replacement text all None replaced = Replaced pattern replacement text all 0 text
Replaces pattern replacement text all (Some count) replaced = (0 < count) × Replaced pattern replacement text all count replaced

-- the same, with the text
abbrev pub Substitutes : Tree → (replacement text : List ℕ) → (all : Bool) → Option Substitution → Type 0
Substitutes pattern replacement text all None = Replaced pattern replacement text all 0 text
Substitutes pattern replacement text all (Some made) = Replaces pattern replacement text all (Some made.count) made.text.items
