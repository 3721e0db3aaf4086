use Rattle.awk_frames.specs.support.CheckedStatementNodes.{checked_part, checked_optional_expr}
use Rattle.awk_frames.specs.support.FrameView.{stack_of}
use Rattle.awk_syntax.proofs.OtherSimpleTokens.{last_begins}
use Rattle.awk_syntax.proofs.for_part_beginnings.before_for_last.Goals as goal

pub returns-in_ok-push-in_default : goal.returns-in_ok-push-in_default
returns-in_ok-push-in_default c =
    rw (last_begins (checked_part c.args.head.value.first.value) (checked_optional_expr c.args.head.value.condition) (stack_of c.args.stack.now.items) c.args.next.kind.now c.in_default.not-CloseParenthesis)
    (rw (c.in_ok-push-in_default.ensures {u = tt}) at c.start_part.ensures)
