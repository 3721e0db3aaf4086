use Rattle.std.proofs.Common.{arith}
use Rattle.awk_value.proofs.RangeIsInt128.{in_range, out_of_range}
use Rattle.awk_value.proofs.arithmetic.pow.Goals as goal

pub returns-then-n-lt-FAR_EXPONENT : goal.returns-then-n-lt-FAR_EXPONENT
returns-then-n-lt-FAR_EXPONENT c = grind (arith, in_range, out_of_range)
