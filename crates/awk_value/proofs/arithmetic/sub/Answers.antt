use Rattle.std.proofs.Common.{rules}
use Rattle.awk_value.proofs.RangeIsInt128.{in_range, out_of_range}
use Rattle.awk_value.proofs.arithmetic.sub.Goals as goal

pub returns : goal.returns
returns c = search (rules, in_range, out_of_range)
