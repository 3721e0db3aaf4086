use Rattle.std.proofs.Common.{◌+◌, ◌≤◌, ◌<◌, length}
use Rattle.awk_ere.proofs.CheckDecidesText.{Follows}
use Rattle.awk_ere.proofs.check.check.Given as goal

abbrev pub invariant-loop-rest : goal.invariant-loop-rest
invariant-loop-rest l = record {
  follows : Follows l.text l.rest l.place l.bad l.opened;
  long : 0 < length l.text;
  fits : length l.rest + l.place.groups ≤ length l.text;
}

abbrev pub decreases-loop-rest : goal.decreases-loop-rest
decreases-loop-rest l = length l.rest
