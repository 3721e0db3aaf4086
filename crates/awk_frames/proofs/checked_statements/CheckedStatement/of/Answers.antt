use Rattle.std.proofs.Common.{rules}
use Rattle.awk_frames.proofs.checked_statements.CheckedStatement.of.Goals as goal

pub returns-then-height-gt-MAX_HEIGHT : goal.returns-then-height-gt-MAX_HEIGHT
returns-then-height-gt-MAX_HEIGHT c = search rules
