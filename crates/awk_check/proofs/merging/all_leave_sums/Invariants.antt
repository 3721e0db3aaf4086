use Rattle.std.proofs.Common.{◌≡◌, drop, map}
use Rattle.awk_run.specs.Start.{pair_of}
use Rattle.awk_merging.specs.definitions.LawOfMerging.{all_leave_sums}
use Rattle.awk_merging.specs.support.SumsOf.{sums_of}
use Rattle.awk_check.proofs.merging.all_leave_sums.Given as goal

abbrev pub invariant-loop-assignment : goal.invariant-loop-assignment
invariant-loop-assignment l =
    all_leave_sums (sums_of l.sums) (map pair_of (drop l.assignment-index l.assigned)) ≡ all_leave_sums (sums_of l.sums) (map pair_of l.assigned)
