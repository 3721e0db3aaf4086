use Rattle.awk_evaluator.proofs.Parts.{takes_kept}
use Rattle.awk_evaluator.proofs.machine.Machine.take_key.Goals as goal

pub returns : goal.returns
returns c = takes_kept c.is_done.ensures.kept c.is_done.ensures.came c.give_key-given.ensures
