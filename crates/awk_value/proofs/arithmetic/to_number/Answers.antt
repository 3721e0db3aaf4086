use Rattle.std.proofs.Common.{rules}
use Rattle.awk_value.proofs.arithmetic.to_number.Goals as goal

pub returns : goal.returns
returns c = search rules
