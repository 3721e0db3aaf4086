use Rattle.awk_frames.specs.support.FrameView.{stack_of}
use Rattle.awk_syntax.proofs.OtherStatementTokens.{statement_word}
use Rattle.awk_syntax.proofs.statements.start_keyword.Goals as goal

pub returns-in_default : goal.returns-in_default
returns-in_default c = rw (statement_word (stack_of c.args.stack.now.items) c.args.keyword c.in_default.not-If c.in_default.not-While c.in_default.not-For c.in_default.not-Do c.in_default.not-Break c.in_default.not-Continue c.in_default.not-Next c.in_default.not-NextFile c.in_default.not-Exit c.in_default.not-Return) c.start_part_keyword.ensures
