use Rattle.std.proofs.Common.{rules}
use Rattle.awk_value.proofs.order.compare.Goals as goal

pub returns-2 : goal.returns-2
returns-2 c = search rules
