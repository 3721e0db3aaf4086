use Rattle.std.proofs.Common.{rules}
use Rattle.awk_value.proofs.text_entry.take_text.Goals as goal

pub returns : goal.returns
returns c = search rules
