use Rattle.std.proofs.Common.{arith}
use Rattle.std.proofs.lemmas.Grind.{common_steps}
use Rattle.awk_ere.proofs.simulation.join.Goals as goal

pub returns-after-first-2-clause-flow : goal.returns-after-first-2-clause-flow
returns-after-first-2-clause-flow c = grind (arith, common_steps)
