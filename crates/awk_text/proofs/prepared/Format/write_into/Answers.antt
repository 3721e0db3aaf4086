use Rattle.std.proofs.Common.{rules}
use Rattle.awk_text.proofs.prepared.Format.write_into.Goals as goal

pub returns-clause-unchanged : goal.returns-clause-unchanged
returns-clause-unchanged c = search rules
