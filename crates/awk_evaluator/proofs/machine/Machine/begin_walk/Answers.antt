use Rattle.awk_evaluator.proofs.Parts.{puts_kept}
use Rattle.awk_evaluator.proofs.machine.Machine.begin_walk.Goals as goal

pub returns : goal.returns
returns c = puts_kept c.is_done.ensures.kept c.is_done.ensures.came c.lay_keys-laid.ensures
