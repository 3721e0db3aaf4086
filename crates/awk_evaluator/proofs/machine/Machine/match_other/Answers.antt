use Rattle.awk_evaluator.proofs.Parts.{part_told, computes_kept}
use Rattle.awk_evaluator.proofs.ReadFields.{compares_alike}
use Rattle.awk_evaluator.proofs.machine.Machine.match_other.Goals as goal

pub returns : goal.returns
returns c = compares_alike _ _ c.in_default.ensures.none _ (part_told c.truth_of.ensures.told (computes_kept c.truth_of.ensures.kept c.matches-value.ensures))
