use Rattle.std.proofs.Common.{refl}
use Rattle.awk_evaluator.proofs.Parts.{related_with_compares, part_told, computes_kept}
use Rattle.awk_evaluator.proofs.machine.Machine.compare_value_with.Goals as goal

pub returns-in-Some : goal.returns-in-Some
returns-in-Some c = related_with_compares (c.in-Some.ensures {u = tt}) (record { operands = c.drop.ensures; calls = refl; runtime = refl })

pub returns : goal.returns
returns c = part_told c.truth_of.ensures.told (computes_kept c.truth_of.ensures.kept c.operate_with-value.ensures)
