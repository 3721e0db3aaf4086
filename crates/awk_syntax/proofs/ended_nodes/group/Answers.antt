use Rattle.std.proofs.Common.{arith}
use Rattle.awk_syntax.proofs.ended_nodes.group.Goals as goal

pub of-requires : goal.of-requires
of-requires c = omega (arith, c.in-Some.inside.counted)
