use Rattle.std.proofs.Common.{refl}
use Rattle.awk_syntax.proofs.taken.operand.Goals as goal

pub returns : goal.returns
returns c = λ frames. refl
