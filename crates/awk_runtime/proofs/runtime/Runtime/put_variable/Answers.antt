use Rattle.awk_runtime.proofs.VariableWords.{special_outside}
use Rattle.awk_runtime.proofs.runtime.Runtime.put_variable.Goals as goal

pub returns-in-Special : goal.returns-in-Special
returns-in-Special c = rw c.in-Special.is (special_outside c.in-Special.special _ c.put_special.ensures)
