use Rattle.awk_runtime.proofs.Prints.{printed_to_output}
use Rattle.awk_runtime.proofs.runtime.Runtime.print.Goals as goal

pub returns-clause-follows : goal.returns-clause-follows
returns-clause-follows g c = λ functions. printed_to_output _ (c.print_by.ensures.prints functions)
