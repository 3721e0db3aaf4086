use Rattle.awk_frames.specs.support.FrameView.{role_of, operand_of}
use Rattle.awk_frames.proofs.Reductions.{open_frame}
use Rattle.awk_frames.proofs.frame.Frame.is_ended.Goals as goal

pub returns-in_default : goal.returns-in_default
returns-in_default c = open_frame (role_of c.args.role) (operand_of c.args.operand.now) c.args.self.now c.in_default.not-Node
