-- The record that its parts stand for.
use Rattle.std.specs.Prelude.{ℕ, List}
use Rattle.awk_text.specs.Separators.{Rule}
use Rattle.awk_value.specs.declared.value.Value.{Value}
use Rattle.awk_record.specs.definitions.Record.{RecordPair, split_by, joined_by}
use Rattle.awk_record.specs.declared.record.Form.{Form}
use Rattle.awk_record.specs.declared.record.Form.TheVariants.{Split, Assigned, Joined}

abbrev pub pair_of : Form → (text : List ℕ) → Rule → (output_separator : List ℕ) → List Value → RecordPair
pair_of Split text separator output_separator values = split_by separator text
pair_of Assigned text separator output_separator values = joined_by output_separator values
pair_of Joined text separator output_separator values = record { text = text; fields = values }
