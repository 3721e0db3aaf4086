use Rattle.std.proofs.Common.{arith}
use Rattle.std.proofs.lemmas.Grind.{common_steps}
use Rattle.awk_ere.proofs.RoundsAppend.{next_fork}
use Rattle.awk_ere.proofs.repeat.push_forks.Goals as goal

pub loop-preserved : goal.loop-preserved
loop-preserved c = next_fork _ _ c.args.body.now c.loop.instructions.items _ _ c.loop-test.true (grind (arith, common_steps)) c.loop.invariant
