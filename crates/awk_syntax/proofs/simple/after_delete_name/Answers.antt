use Rattle.std.proofs.Common.{rules}
use Rattle.awk_frames.specs.support.FrameView.{stack_of}
use Rattle.awk_syntax.proofs.OtherSimpleTokens.{deletes_all}
use Rattle.awk_syntax.proofs.simple.after_delete_name.Goals as goal

pub returns-in_ok-frame-in-OpenBracket : goal.returns-in_ok-frame-in-OpenBracket
returns-in_ok-frame-in-OpenBracket c = search rules

pub returns-in_default : goal.returns-in_default
returns-in_default c =
    rw (deletes_all c.args.name (stack_of c.args.stack.now.items) c.args.next.kind.now c.in_default.not-OpenBracket)
    (rw c.delete_all.ensures at c.end_simple.ensures)
