use Rattle.std.proofs.Common.{sym, ◌∙◌}
use Rattle.awk_frames.specs.support.CheckedStatementNodes.{checked_simple}
use Rattle.awk_frames.specs.support.FrameView.{stack_of}
use Rattle.awk_syntax.proofs.AloneStatements.{ends_alone}
use Rattle.awk_syntax.proofs.simple.end_simple.Goals as goal

pub returns-then-is_part_on : goal.returns-then-is_part_on
returns-then-is_part_on c = c.end_part.ensures

pub returns : goal.returns
returns c =
    rw (ends_alone c.args.next.kind.now (checked_simple c.args.statement) (stack_of c.args.stack.now.items) (sym c.is_part_on.ensures ∙ c.if-is_part_on.false))
    (rw (c.in_ok-statement.ensures {u = tt}) at c.end_simple_statement.ensures)
