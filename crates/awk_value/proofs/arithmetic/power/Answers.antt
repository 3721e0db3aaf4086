use Rattle.std.proofs.Common.{rules}
use Rattle.awk_value.proofs.arithmetic.power.Goals as goal

pub returns-in_err-pow : goal.returns-in_err-pow
returns-in_err-pow c = search rules

pub returns : goal.returns
returns c = search rules
