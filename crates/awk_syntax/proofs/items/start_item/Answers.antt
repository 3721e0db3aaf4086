use Rattle.std.proofs.Common.{rules}
use Rattle.awk_frames.specs.support.FrameView.{stack_of}
use Rattle.awk_syntax.proofs.OtherItemTokens.{item_is_pattern}
use Rattle.awk_syntax.proofs.items.start_item.Goals as goal

pub returns-in_default : goal.returns-in_default
returns-in_default c = rw (item_is_pattern (stack_of c.args.stack.now.items) c.args.next.kind.now c.in_default.not-Semicolon c.in_default.not-Newline c.in_default.not-OpenBrace c.in_default.not-Keyword) c.start_pattern.ensures

pub returns-in_ok-new-in-OpenBrace : goal.returns-in_ok-new-in-OpenBrace
returns-in_ok-new-in-OpenBrace c = search rules
