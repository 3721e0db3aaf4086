use Rattle.std.proofs.Common.{rules}
use Rattle.awk_syntax.proofs.items.start_action.Goals as goal

pub returns : goal.returns
returns c = search rules
