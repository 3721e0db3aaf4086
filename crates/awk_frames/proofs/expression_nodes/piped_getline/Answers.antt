use Rattle.std.proofs.Common.{rules}
use Rattle.awk_frames.proofs.expression_nodes.piped_getline.Goals as goal

pub of-requires : goal.of-requires
of-requires c = search rules
