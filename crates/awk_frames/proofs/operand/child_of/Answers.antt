use Rattle.std.proofs.Common.{rules}
use Rattle.awk_frames.proofs.operand.child_of.Goals as goal

pub returns-in-Some : goal.returns-in-Some
returns-in-Some c = search rules
