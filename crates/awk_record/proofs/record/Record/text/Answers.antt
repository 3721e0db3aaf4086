use Rattle.std.proofs.Common.{rules}
use Rattle.awk_record.proofs.record.Record.text.Goals as goal

pub returns-clause-text : goal.returns-clause-text
returns-clause-text c = search rules
