use Rattle.awk_evaluator.proofs.Parts.{part_done, computes_kept}
use Rattle.awk_evaluator.proofs.machine.Machine.raise_value.Goals as goal

pub returns : goal.returns
returns c = part_done _ c.is_done.ensures.came (computes_kept c.is_done.ensures.kept c.post_increment-raised.ensures)
