use Rattle.std.proofs.Common.{rules}
use Rattle.awk_syntax.proofs.ended_nodes.do_loop.Goals as goal

pub of-requires : goal.of-requires
of-requires c = search rules
