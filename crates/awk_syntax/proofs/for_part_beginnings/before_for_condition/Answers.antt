use Rattle.awk_frames.specs.support.CheckedStatementNodes.{checked_part}
use Rattle.awk_frames.specs.support.FrameView.{stack_of}
use Rattle.awk_syntax.proofs.OtherSimpleTokens.{condition_begins}
use Rattle.awk_syntax.proofs.for_part_beginnings.before_for_condition.Goals as goal

pub returns-in_ok-push-in_default : goal.returns-in_ok-push-in_default
returns-in_ok-push-in_default c =
    rw (condition_begins (checked_part c.args.first.value) (stack_of c.args.stack.now.items) c.args.next.kind.now c.in_default.not-Semicolon)
    (rw (c.in_ok-push-in_default.ensures {u = tt}) at c.start_operand.ensures)
