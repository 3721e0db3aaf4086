use Rattle.std.proofs.Common.{rules}
use Rattle.awk_world.proofs.entry.receive.Goals as goal

pub returns-then-id-output-2 : goal.returns-then-id-output-2
returns-then-id-output-2 c = search rules
