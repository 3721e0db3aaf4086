use Rattle.std.proofs.Common.{arith}
use Rattle.awk_frames.proofs.expression_nodes.assign.Goals as goal

pub of-requires : goal.of-requires
of-requires c = omega (arith, c.in-Some.place.counted, c.in-Some-value.value.counted)
