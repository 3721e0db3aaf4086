use Rattle.awk_runtime.proofs.Steps.{still}
use Rattle.awk_runtime.proofs.VariableWords.{special_read}
use Rattle.awk_runtime.proofs.runtime.Runtime.value_in.Goals as goal

pub returns-in-Special : goal.returns-in-Special
returns-in-Special c = rw c.in-Special.is (special_read c.in-Special.special (still c.args.self.now) c.special.ensures)
