use Rattle.std.proofs.Common.{rules}
use Rattle.awk_value.proofs.arithmetic.minus.Goals as goal

pub returns-in_err-sub : goal.returns-in_err-sub
returns-in_err-sub c = search rules

pub returns : goal.returns
returns c = search rules
