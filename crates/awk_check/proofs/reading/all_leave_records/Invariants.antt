use Rattle.std.proofs.Common.{◌≡◌, drop, map}
use Rattle.awk_pieces.specs.definitions.LawOfPieces.{all_leave_records}
use Rattle.awk_run.specs.Start.{pair_of}
use Rattle.awk_check.proofs.reading.all_leave_records.Given as goal

abbrev pub invariant-loop-assignment : goal.invariant-loop-assignment
invariant-loop-assignment l = all_leave_records (map pair_of (drop l.assignment-index l.assigned)) ≡ all_leave_records (map pair_of l.assigned)
