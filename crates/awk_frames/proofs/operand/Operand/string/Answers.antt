use Rattle.std.proofs.Common.{rules}
use Rattle.awk_frames.proofs.operand.Operand.string.Goals as goal

pub returns : goal.returns
returns c = search rules
