use Rattle.std.proofs.Common.{◌+◌, ◌-◌, vec_len}
use Rattle.awk_functions.proofs.patterns.reserve_place.Given as goal

abbrev pub decreases-loop-places : goal.decreases-loop-places
decreases-loop-places g l = l.number + 1 - vec_len l.places
