use Rattle.awk_evaluator.proofs.Parts.{spent_kept}
use Rattle.awk_evaluator.proofs.machine.Machine.spend.Goals as goal

pub returns-clause-spends : goal.returns-clause-spends
returns-clause-spends c = spent_kept c.is_done.ensures.kept c.is_done.ensures.came c.spend-spent.ensures
