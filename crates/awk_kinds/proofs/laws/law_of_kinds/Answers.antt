use Rattle.awk_kinds.proofs.laws.law_of_kinds.Goals as goal
use Rattle.awk_kinds.proofs.LeastArrays.{is_least}

-- src/laws.rt:39:1
pub returns : goal.returns
returns c = is_least
