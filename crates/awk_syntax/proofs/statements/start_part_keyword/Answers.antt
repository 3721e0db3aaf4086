use Rattle.awk_frames.specs.support.FrameView.{stack_of}
use Rattle.awk_syntax.proofs.OtherStatementTokens.{part_word}
use Rattle.awk_syntax.proofs.statements.start_part_keyword.Goals as goal

pub returns-in_default : goal.returns-in_default
returns-in_default c = rw (part_word (stack_of c.args.stack.now.items) c.args.keyword c.in_default.not-Print c.in_default.not-Printf c.in_default.not-Delete) (rw c.requires at c.start_expression.ensures)
