use Rattle.std.proofs.Common.{rules}
use Rattle.awk_value.proofs.arithmetic.remainder.Goals as goal

pub returns-in_err-rem : goal.returns-in_err-rem
returns-in_err-rem c = search rules

pub returns : goal.returns
returns c = search rules
