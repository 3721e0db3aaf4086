use Rattle.std.proofs.Common.{sym}
use Rattle.awk_ere.proofs.IntervalValue.{counts_some}
use Rattle.awk_ere.proofs.reading.interval.number_at.Goals as goal

pub returns-then-rest-bytes : goal.returns-then-rest-bytes
returns-then-rest-bytes c = counts_some _ _ _ c.loop-digit.invariant (sym c.in_default.ensures) c.if-rest-bytes.true
