use Rattle.std.proofs.Common.{rules}
use Rattle.awk_value.proofs.arithmetic.rem.Goals as goal

pub returns : goal.returns
returns c = search rules
