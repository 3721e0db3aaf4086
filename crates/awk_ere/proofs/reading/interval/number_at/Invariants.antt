use Rattle.std.proofs.Common.{length}
use Rattle.awk_ere.proofs.IntervalValue.{Counts}
use Rattle.awk_ere.proofs.reading.interval.number_at.Given as goal

abbrev pub invariant-loop-digit : goal.invariant-loop-digit
invariant-loop-digit l = Counts l.bytes l.rest l.number

abbrev pub decreases-loop-digit : goal.decreases-loop-digit
decreases-loop-digit l = length l.rest
