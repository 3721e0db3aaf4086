-- The fields of a text, as far as they were found.
use Rattle.std.specs.Prelude.{◌≡◌, ℕ, List, ◌++◌}
use Rattle.awk_text.specs.Pieces.{stretches_at, AreSpansOf}
use Rattle.awk_text.specs.Fields.{pieces_from_by, pieces_by}
use Rattle.awk_text.specs.declared.fault.TextFault.{TextFault}
use Rattle.awk_text.specs.declared.fault.TextFault.TheVariants as text
use Rattle.awk_record.specs.declared.record_fault.RecordFault.{RecordFault}
use Rattle.awk_record.specs.declared.record_fault.RecordFault.TheVariants.{Memory, Pattern}
use Rattle.awk_record.specs.declared.fields.Fields.{Fields}

-- those that were found and those that are still to be found are the fields of the text
pub record AreFieldsOf (text : List ℕ) (fields : Fields) : Type 0 where
  pub within : AreSpansOf text fields.spans.items
  pub pieces : stretches_at text fields.spans.items ++ pieces_from_by fields.separator text fields.rest ≡ pieces_by fields.separator text

-- the fault of a record for a fault of its separator's text
abbrev pub text_fault : TextFault → RecordFault
text_fault text.Memory = Memory
text_fault text.Pattern = Pattern
