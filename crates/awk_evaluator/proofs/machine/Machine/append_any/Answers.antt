use Rattle.awk_evaluator.proofs.Parts.{part_done, appends_kept}
use Rattle.awk_evaluator.proofs.machine.Machine.append_any.Goals as goal

pub returns : goal.returns
returns c = part_done _ c.is_done.ensures.came (appends_kept c.is_done.ensures.kept c.append_all-appended.ensures)
