use Rattle.std.proofs.Common.{arith}
use Rattle.std.proofs.lemmas.Grind.{common_steps}
use Rattle.awk_world.proofs.script_world.ScriptWorld.note_failure.Goals as goal

pub returns-clause-failures : goal.returns-clause-failures
returns-clause-failures c = grind (arith, common_steps)
