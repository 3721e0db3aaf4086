use Rattle.std.proofs.Common.{rules}
use Rattle.awk_world.proofs.script_world.ScriptWorld.new.Goals as goal

pub returns-clause-failures : goal.returns-clause-failures
returns-clause-failures c = search rules
