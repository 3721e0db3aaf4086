use Rattle.std.proofs.Common.{refl}
use Rattle.awk_world.proofs.script_world.ScriptWorld.fail_write.Goals as goal

pub returns-clause-script : goal.returns-clause-script
returns-clause-script c = refl
