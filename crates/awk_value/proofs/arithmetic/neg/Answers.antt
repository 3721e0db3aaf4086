use Rattle.std.proofs.Common.{arith}
use Rattle.awk_value.proofs.RangeIsInt128.{in_range, out_of_range}
use Rattle.awk_value.proofs.arithmetic.neg.Goals as goal

pub returns : goal.returns
returns c = grind (arith, in_range, out_of_range)
