use Rattle.std.proofs.Common.{arith, rules}
use Rattle.awk_ere.proofs.simulation.PositionSet.for_count.Goals as goal

pub returns : goal.returns
returns c = (omega (arith, c.in_ok-positions.ensures.len), search rules)
