use Rattle.awk_frames.specs.support.FrameView.{stack_of}
use Rattle.awk_syntax.proofs.OtherItemTokens.{item_word}
use Rattle.awk_syntax.proofs.items.start_item_keyword.Goals as goal

pub returns-in_default : goal.returns-in_default
returns-in_default c = rw (item_word (stack_of c.args.stack.now.items) c.args.keyword c.in_default.not-Begin c.in_default.not-End c.in_default.not-Function) (rw c.requires at c.start_pattern.ensures)
