use Rattle.std.proofs.Common.{arith}
use Rattle.awk_syntax.proofs.nodes.membership.Goals as goal

pub of-requires : goal.of-requires
of-requires c = omega (arith, c.in-Some.subscript.counted)
