use Rattle.std.proofs.Common.{rules}
use Rattle.awk_frames.proofs.expression_nodes.unary.Goals as goal

pub returns : goal.returns
returns c = search rules
