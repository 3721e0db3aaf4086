use Rattle.awk_evaluator.proofs.Moving.{executes_done, idle_done}
use Rattle.awk_evaluator.proofs.machine.Machine.execute.Goals as goal

pub returns-clause-idle : goal.returns-clause-idle
returns-clause-idle g c = idle_done c.run.result c.run.ensures.ends

pub returns-clause-executes : goal.returns-clause-executes
returns-clause-executes g c = executes_done c.run.result c.requires.idle c.run.ensures.ends
