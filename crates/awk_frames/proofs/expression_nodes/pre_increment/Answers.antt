use Rattle.std.proofs.Common.{rules}
use Rattle.awk_frames.proofs.expression_nodes.pre_increment.Goals as goal

pub returns : goal.returns
returns c = search rules
