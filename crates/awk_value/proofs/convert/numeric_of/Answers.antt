use Rattle.std.proofs.Common.{refl}
use Rattle.awk_value.proofs.convert.numeric_of.Goals as goal

pub returns-in-Text-clause-numeric : goal.returns-in-Text-clause-numeric
returns-in-Text-clause-numeric c = rw c.in-Text.is refl
