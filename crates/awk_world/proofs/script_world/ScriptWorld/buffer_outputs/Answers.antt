use Rattle.std.proofs.Common.{refl}
use Rattle.awk_world.proofs.script_world.ScriptWorld.buffer_outputs.Goals as goal

pub returns-clause-script : goal.returns-clause-script
returns-clause-script c = refl
