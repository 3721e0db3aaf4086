use Rattle.awk_frames.specs.support.FrameView.{stack_of}
use Rattle.awk_syntax.proofs.OtherSimpleTokens.{first_begins}
use Rattle.awk_syntax.proofs.for_part_beginnings.before_for_first.Goals as goal

pub returns-in_ok-push-in_default : goal.returns-in_ok-push-in_default
returns-in_ok-push-in_default c =
    rw (first_begins (stack_of c.args.stack.now.items) c.args.next.kind.now c.in_default.not-Semicolon)
    (rw (c.in_ok-push-in_default.ensures {u = tt}) at c.start_part.ensures)
