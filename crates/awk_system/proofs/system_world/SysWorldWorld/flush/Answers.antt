use Rattle.std.proofs.Common.{rules}
use Rattle.awk_system.proofs.system_world.SysWorldWorld.flush.Goals as goal

pub returns-in-0-clause-output : goal.returns-in-0-clause-output
returns-in-0-clause-output g c = search rules
