use Rattle.std.proofs.Common.{rules}
use Rattle.awk_world.proofs.script_world.ScriptWorld.try_write.Goals as goal

pub returns-clause-log : goal.returns-clause-log
returns-clause-log c = search rules
