use Rattle.std.proofs.Common.{rules}
use Rattle.awk_frames.specs.support.FrameView.{stack_of}
use Rattle.awk_syntax.proofs.OtherStatementTokens.{part_is_expression}
use Rattle.awk_syntax.proofs.statements.start_part.Goals as goal

pub returns-in_default : goal.returns-in_default
returns-in_default c = rw (part_is_expression (stack_of c.args.stack.now.items) c.args.next.kind.now c.in_default.not-Keyword) c.start_expression.ensures

pub returns-in-Keyword : goal.returns-in-Keyword
returns-in-Keyword c = search rules
