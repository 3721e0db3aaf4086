use Rattle.std.proofs.Common.{arith}
use Rattle.awk_system.proofs.system_world.SysWorld.new.Goals as goal

pub invariant_of-result-clause-named : goal.invariant_of-result-clause-named
invariant_of-result-clause-named g c = omega arith
