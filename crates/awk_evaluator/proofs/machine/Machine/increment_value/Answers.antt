use Rattle.awk_evaluator.proofs.Parts.{part_done, leaves_kept}
use Rattle.awk_evaluator.proofs.machine.Machine.increment_value.Goals as goal

pub returns : goal.returns
returns c = part_done _ c.is_done.ensures.came (leaves_kept c.is_done.ensures.kept _ c.post_increment_at-raised.ensures)
