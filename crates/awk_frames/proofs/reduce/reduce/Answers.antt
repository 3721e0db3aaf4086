use Rattle.std.proofs.Common.{◌∙◌}
use Rattle.awk_frames.specs.support.FrameView.{role_of, operand_of, frame_of, stack_of}
use Rattle.awk_frames.proofs.Reductions.{makes, stops}
use Rattle.awk_frames.proofs.reduce.reduce.Goals as goal

pub loop-frame-preserved : goal.loop-frame-preserved
loop-frame-preserved c =
    makes (role_of c.args.role) (operand_of c.loop-frame.operand) (operand_of c.in_ok-operand.operand) (frame_of c.in-Some.frame) (stack_of c.loop-frame.stack.items) (stack_of c.pop_ended.new.stack.items)
    (rw c.in-Some.is at c.pop_ended.ensures) (c.in_ok-operand.ensures {u = tt})
    ∙ c.loop-frame.invariant

pub returns : goal.returns
returns c =
    stops (role_of c.args.role) (operand_of c.loop-frame.operand) (stack_of c.loop-frame.stack.items) (stack_of c.pop_ended.new.stack.items)
    (rw c.in_default.is at c.pop_ended.ensures)
    ∙ c.loop-frame.invariant
