use Rattle.std.proofs.Common.{length}
use Rattle.awk_ere.proofs.BracketValue.{Stand}
use Rattle.awk_ere.proofs.reading.bracket.items_at.Given as goal

abbrev pub invariant-loop-behind : goal.invariant-loop-behind
invariant-loop-behind l = Stand l.bytes l.rest l.first l.descends l.set

abbrev pub decreases-loop-behind : goal.decreases-loop-behind
decreases-loop-behind l = length l.rest
