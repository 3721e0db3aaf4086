use Rattle.awk_evaluator.proofs.QuickValues.{read_loads}
use Rattle.awk_evaluator.proofs.machine.Machine.put_loaded.Goals as goal

pub returns-clause-puts : goal.returns-clause-puts
returns-clause-puts c = λ ok. read_loads (c.put_copy_of.ensures.puts ok)
