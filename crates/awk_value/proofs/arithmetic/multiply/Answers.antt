use Rattle.std.proofs.Common.{rules}
use Rattle.awk_value.proofs.arithmetic.multiply.Goals as goal

pub returns-in_err-mul : goal.returns-in_err-mul
returns-in_err-mul c = search rules

pub returns : goal.returns
returns c = search rules
