use Rattle.std.proofs.Common.{rules}
use Rattle.awk_frames.proofs.operand.Operand.ere.Goals as goal

pub returns : goal.returns
returns c = search rules
