-- What a call that replaces matches answers, and leaves.
use Rattle.std.specs.Prelude.{◌≡◌, ◌<◌, ℕ, List, Option, Some, None}
use Rattle.awk_semantics.specs.definitions.Texts.{Exchange}

-- how many matches were exchanged, if any were, and the text then; else the text is as it was
abbrev pub IsExchange : Exchange → (text : List ℕ) → (count : Option ℕ) → (replaced : List ℕ) → Type 0
IsExchange made text None replaced = (made.count ≡ 0) × (made.text ≡ text)
IsExchange made text (Some count) replaced = (0 < count) × (made.count ≡ count) × (made.text ≡ replaced)
