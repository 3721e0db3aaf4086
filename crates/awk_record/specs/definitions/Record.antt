-- The record at hand: a text and its complete fields.
-- POSIX awk, "Expressions in awk" (fields) and "Variables and Special Variables" (NF).
use Rattle.std.specs.Prelude.{ℕ, zero, suc, ◌-◌, max, nat_lt, if◌then◌else◌, ℤ, pos, negsuc, List, [], ◌∷◌, ◌++◌, length, map, replicate, take, slice_get, slice_set, unwrap_or, Result, Ok, Err}
use Rattle.awk_text.specs.Fields.{pieces_by}
use Rattle.awk_text.specs.Pieces.{stretches_at}
use Rattle.awk_text.specs.Separators.{Rule}
use Rattle.awk_text.specs.declared.span.Span.{Span}
use Rattle.awk_value.specs.Values.{str_of}
use Rattle.awk_value.specs.declared.value.Value.{Value}
use Rattle.awk_value.specs.declared.value.Value.TheVariants.{Nothing, Input}
use Rattle.awk_record.specs.declared.record_fault.RecordFault.{RecordFault}
use Rattle.awk_record.specs.declared.record_fault.RecordFault.TheVariants.{FieldNumber}

pub record RecordPair : Type 0 where
  pub text : List ℕ
  pub fields : List Value

-- texts that came from outside
abbrev pub inputs_of : List (List ℕ) → List Value
inputs_of texts = map (λ text. Input text) texts

-- the record of a text, with the fields that a rule of separators leaves
abbrev pub split_by : Rule → (text : List ℕ) → RecordPair
split_by rule text = record { text = text; fields = inputs_of (pieces_by rule text) }

-- the record of a text whose fields are these stretches
abbrev pub spanned : (text : List ℕ) → List Span → RecordPair
spanned text spans = record { text = text; fields = inputs_of (stretches_at text spans) }

-- field 0 is the whole text; past the last field is what was never assigned
abbrev pub field_of : RecordPair → ℤ → Result Value RecordFault
field_of r (pos zero) = Ok (Input r.text)
field_of r (pos (suc i)) = Ok (unwrap_or (slice_get r.fields i) Nothing)
field_of r (negsuc n) = Err FieldNumber

-- the texts of fields behind a first one, each behind the separator
abbrev pub joined_behind : (separator : List ℕ) → List Value → List ℕ
joined_behind separator [] = []
joined_behind separator (field ∷ fields) = (separator ++ str_of field) ++ joined_behind separator fields

-- the texts of fields, with the separator between them
abbrev pub joined : (separator : List ℕ) → List Value → List ℕ
joined separator [] = []
joined separator (field ∷ fields) = str_of field ++ joined_behind separator fields

-- the record of these fields, whose text they make
abbrev pub joined_by : (separator : List ℕ) → List Value → RecordPair
joined_by separator fields = record { text = joined separator fields; fields = fields }

-- so many fields: those behind are cut off, or ones that were never assigned stand behind
abbrev pub resized : (count : ℕ) → List Value → List Value
resized count fields = take count fields ++ replicate (count - length fields) Nothing

-- the greatest field number and the greatest count that can be assigned
abbrev pub most_fields : ℕ
most_fields = 16777216

abbrev pub assignable : ℤ → Result ℕ RecordFault
assignable (pos n) = if nat_lt most_fields n then Err FieldNumber else Ok n
assignable (negsuc n) = Err FieldNumber

abbrev pub with_count : Result ℕ RecordFault → (separator : List ℕ) → RecordPair → Result RecordPair RecordFault
with_count (Ok n) separator r = Ok (joined_by separator (resized n r.fields))
with_count (Err e) separator r = Err e

-- a field from 1 on is set, and missing ones before it are made; field 0 is the text
abbrev pub with_field : Result ℕ RecordFault → Value → (separator : List ℕ) → RecordPair → Result RecordPair RecordFault
with_field (Ok zero) value separator r = Err FieldNumber
with_field (Ok (suc i)) value separator r = Ok (joined_by separator (slice_set (resized (max (suc i) (length r.fields)) r.fields) i value))
with_field (Err e) value separator r = Err e
