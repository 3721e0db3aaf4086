use Rattle.std.proofs.Common.{rules}
use Rattle.awk_record.proofs.record.Record.set_text.Goals as goal

pub returns-clause-ok : goal.returns-clause-ok
returns-clause-ok c = search rules
