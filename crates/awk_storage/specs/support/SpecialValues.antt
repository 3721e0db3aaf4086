-- How the special variables are kept: each at its index, in their names' order.
use Rattle.std.specs.Prelude.{◌≡◌, ℕ, pos, false, List, map, slice_index_or, slice_set}
use Rattle.std.specs.Borrow.{Bor}
use Rattle.std.specs.List.{fold}
use Rattle.std.specs.Result.{is_err}
use Rattle.awk_text.specs.Separators.{separator_of}
use Rattle.awk_value.specs.Values.{str_of}
use Rattle.awk_value.specs.declared.value.Value.{Value}
use Rattle.awk_value.specs.declared.value.Value.TheVariants.{Nothing, Number, Text}
use Rattle.awk_kinds.specs.declared.special.FirstValue.{FirstValue}
use Rattle.awk_kinds.specs.declared.special.FirstValue.TheVariants as first
use Rattle.awk_kinds.specs.declared.special.OwnVariable.{OwnVariable}
use Rattle.awk_kinds.specs.declared.special.OwnVariable.TheVariants as own
use Rattle.awk_kinds.specs.declared.special.Special.{Special}
use Rattle.awk_kinds.specs.declared.special.Special.TheVariants.{Fs, Rs}
use Rattle.awk_kinds.specs.definitions.Variables.{Pairs, name_of, initial_values}
use Rattle.awk_kinds.specs.support.SpecialIndices.{all_specials, index_of}

abbrev pub value_at : List Value → Special → Value
value_at values special = slice_index_or values (index_of special) Nothing

-- the special variables with their values
abbrev pub special_pairs : List Value → Pairs
special_pairs values = map (λ s. (name_of s, value_at values s)) all_specials

-- a value as the run begins
abbrev pub first_value : (arguments : ℕ) → FirstValue → Value
first_value arguments first.Nothing = Nothing
first_value arguments first.ArgumentCount = Number (pos arguments)
first_value arguments first.Zero = Number (pos 0)
first_value arguments (first.Text text) = Text text.now

-- the values, with that of a row, or with those of all rows
abbrev pub with_first : (arguments : ℕ) → List Value → OwnVariable → List Value
with_first arguments values own.Array = values
with_first arguments values own.FieldCount = values
with_first arguments values (own.Kept special at_first) = slice_set values (index_of special) (first_value arguments at_first)

abbrev pub with_rows : (arguments : ℕ) → List Value → List (Bor (List ℕ) × OwnVariable) → List Value
with_rows arguments values rows = fold (λ made row. with_first arguments made row.1) values rows

-- the special variables' values as the run begins
abbrev pub initial_specials : (arguments : ℕ) → List Value
initial_specials arguments = map (λ pair. pair.1) (initial_values arguments)

-- this is the text of FS, and a field separator
abbrev pub IsSeparator : List Value → (text : List ℕ) → Type 0
IsSeparator values text = (text ≡ str_of (value_at values Fs)) × (is_err (separator_of text) ≡ false)

-- the text of RS
abbrev pub record_separator : List Value → List ℕ
record_separator values = str_of (value_at values Rs)
