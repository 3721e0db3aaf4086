use Rattle.awk_evaluator.proofs.Parts.{part_told, computes_kept}
use Rattle.awk_evaluator.proofs.machine.Machine.compare_read.Goals as goal

pub returns : goal.returns
returns c = part_told c.truth_of.ensures.told (computes_kept c.truth_of.ensures.kept c.operate_on-value.ensures)
