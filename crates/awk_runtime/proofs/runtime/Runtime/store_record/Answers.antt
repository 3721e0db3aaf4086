use Rattle.std.proofs.Common.{pos, refl}
use Rattle.awk_value.specs.declared.value.Value.TheVariants.{Number, Text}
use Rattle.awk_runtime.proofs.Words.{whole_changes}
use Rattle.awk_runtime.proofs.PlaceWords.{field_stored}
use Rattle.awk_runtime.proofs.runtime.Runtime.store_record.Goals as goal

pub returns : goal.returns
returns c = field_stored c.args.self.now.names.scalars (Number (pos 0)) (Text c.args.text) (pos 0) refl (whole_changes (Text c.args.text) c.args.text refl c.set_record.ensures)
