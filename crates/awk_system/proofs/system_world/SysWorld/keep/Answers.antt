use Rattle.std.proofs.Common.{rules}
use Rattle.awk_system.proofs.system_world.SysWorld.keep.Goals as goal

pub returns-clause-fresh : goal.returns-clause-fresh
returns-clause-fresh g c = search rules
