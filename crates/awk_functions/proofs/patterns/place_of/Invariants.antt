use Rattle.std.proofs.Common.{◌≤◌, length}
use Rattle.awk_functions.proofs.patterns.place_of.Given as goal

abbrev pub invariant-loop-place : goal.invariant-loop-place
invariant-loop-place l = l.place ≤ length l.patterns
