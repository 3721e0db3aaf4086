use Rattle.std.proofs.Common.{rules}
use Rattle.awk_frames.proofs.frame.Frame.list.Goals as goal

pub returns : goal.returns
returns c = search rules
