use Rattle.std.proofs.Common.{rules}
use Rattle.awk_frames.proofs.node.getline_operand.Goals as goal

pub returns-in_default : goal.returns-in_default
returns-in_default c = search rules
