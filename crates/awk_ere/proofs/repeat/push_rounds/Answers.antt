use Rattle.awk_ere.proofs.RoundsAppend.{next_round}
use Rattle.awk_ere.proofs.repeat.push_rounds.Goals as goal

pub loop-preserved : goal.loop-preserved
loop-preserved c = next_round _ _ c.args.body.now _ _ _ c.loop-test.true c.in_ok-extend_from_slice.ensures.items c.loop.invariant
