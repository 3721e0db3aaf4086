use Rattle.std.proofs.Common.{rules}
use Rattle.awk_value.proofs.arithmetic.divide.Goals as goal

pub returns-in_err-div : goal.returns-in_err-div
returns-in_err-div c = search rules

pub returns : goal.returns
returns c = search rules
