use Rattle.std.proofs.Common.{rules}
use Rattle.awk_frames.proofs.checked_statements.CheckedItems.new.Goals as goal

pub returns : goal.returns
returns c = search rules
