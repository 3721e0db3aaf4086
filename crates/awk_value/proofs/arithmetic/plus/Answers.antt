use Rattle.std.proofs.Common.{rules}
use Rattle.awk_value.proofs.arithmetic.plus.Goals as goal

pub returns-in_err-add : goal.returns-in_err-add
returns-in_err-add c = search rules

pub returns : goal.returns
returns c = search rules
