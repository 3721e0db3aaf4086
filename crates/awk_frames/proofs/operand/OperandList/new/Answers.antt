use Rattle.std.proofs.Common.{rules}
use Rattle.awk_frames.proofs.operand.OperandList.new.Goals as goal

pub returns : goal.returns
returns c = search rules
