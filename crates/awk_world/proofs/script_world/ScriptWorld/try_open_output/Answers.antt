use Rattle.std.proofs.Common.{arith}
use Rattle.std.proofs.lemmas.Grind.{common_steps}
use Rattle.awk_world.proofs.script_world.ScriptWorld.try_open_output.Goals as goal

pub returns-clause-log : goal.returns-clause-log
returns-clause-log c = grind (arith, common_steps)
