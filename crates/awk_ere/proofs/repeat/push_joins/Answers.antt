use Rattle.std.proofs.Common.{arith}
use Rattle.std.proofs.lemmas.Grind.{common_steps}
use Rattle.awk_ere.proofs.RoundsAppend.{next_join}
use Rattle.awk_ere.proofs.repeat.push_joins.Goals as goal

pub loop-preserved : goal.loop-preserved
loop-preserved c = next_join _ _ c.loop.instructions.items _ _ c.loop-test.true (grind (arith, common_steps)) c.loop.invariant
