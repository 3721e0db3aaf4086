use Rattle.std.proofs.Common.{rules}
use Rattle.awk_system.proofs.calls.read_from.Goals as goal

pub returns-in-Ok-clause-bytes : goal.returns-in-Ok-clause-bytes
returns-in-Ok-clause-bytes g c = search rules
