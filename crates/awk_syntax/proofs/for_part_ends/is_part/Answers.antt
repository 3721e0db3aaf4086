use Rattle.awk_syntax.proofs.ForParts.{is_none}
use Rattle.awk_syntax.proofs.for_part_ends.is_part.Goals as goal

pub returns-in_default : goal.returns-in_default
returns-in_default c = is_none c.args.frame.now c.in_default.not-ForFirst c.in_default.not-ForLast
