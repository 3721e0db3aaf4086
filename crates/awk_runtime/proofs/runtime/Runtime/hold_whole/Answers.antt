use Rattle.awk_runtime.proofs.Prints.{whole_printed}
use Rattle.awk_runtime.proofs.runtime.Runtime.hold_whole.Goals as goal

pub returns-clause-follows : goal.returns-clause-follows
returns-clause-follows g c = λ holds functions. whole_printed functions (c.hold_record.ensures.follows holds functions)
