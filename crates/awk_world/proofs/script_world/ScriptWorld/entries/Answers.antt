use Rattle.std.proofs.Common.{rules}
use Rattle.awk_world.proofs.script_world.ScriptWorld.entries.Goals as goal

pub returns : goal.returns
returns c = search rules
