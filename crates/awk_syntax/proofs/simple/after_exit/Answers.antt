use Rattle.awk_frames.specs.support.FrameView.{expression_frame_of, stack_of}
use Rattle.awk_frames.specs.support.CheckedStatementNodes.{checked_simple}
use Rattle.awk_syntax.proofs.OtherSimpleTokens.{exit_has_value}
use Rattle.awk_syntax.proofs.simple.after_exit.Goals as goal

pub returns-in_ok-push-in_default : goal.returns-in_ok-push-in_default
returns-in_ok-push-in_default c =
    rw (exit_has_value (checked_simple c.args.without_value) (expression_frame_of c.args.frame) (stack_of c.args.stack.now.items) c.args.next.kind.now c.in_default.not-Semicolon c.in_default.not-Newline c.in_default.not-CloseBrace)
    (rw (c.in_ok-push-in_default.ensures {u = tt}) at c.start_operand.ensures)
