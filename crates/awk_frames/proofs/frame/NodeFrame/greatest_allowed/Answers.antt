use Rattle.std.proofs.Common.{rules}
use Rattle.awk_frames.proofs.frame.NodeFrame.greatest_allowed.Goals as goal

pub returns-in-SecondChoice : goal.returns-in-SecondChoice
returns-in-SecondChoice c = search rules

pub returns-in-Unary : goal.returns-in-Unary
returns-in-Unary c = search rules

pub returns-in-GetlineFile : goal.returns-in-GetlineFile
returns-in-GetlineFile c = search rules
