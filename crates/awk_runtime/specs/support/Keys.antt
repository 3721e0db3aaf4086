-- Keys of elements, where they stand.
use Rattle.std.specs.Prelude.{ℕ, List}
use Rattle.awk_value.specs.declared.value.Value.{Value}
use Rattle.awk_value.specs.declared.value.Value.TheVariants as value
use Rattle.awk_text.specs.Pieces.{stretch_at, IsSpanOf}
use Rattle.awk_runtime.specs.declared.keys.ElementKey.{ElementKey}
use Rattle.awk_runtime.specs.declared.keys.ElementKey.TheVariants as key

-- the value that a key is, where this is the record's text
abbrev pub key_value : (text : List ℕ) → ElementKey → Value
key_value text (key.Number n) = value.Number n
key_value text (key.Stretch span) = value.Input (stretch_at text span)
key_value text (key.Text t) = value.Text t.now
key_value text (key.Value v) = v.now

-- a stretch stands in the record's text
abbrev pub StandsIn : (text : List ℕ) → ElementKey → Type 0
StandsIn text (key.Number n) = Unit {0}
StandsIn text (key.Stretch span) = IsSpanOf text span
StandsIn text (key.Text t) = Unit {0}
StandsIn text (key.Value v) = Unit {0}
