use Rattle.std.proofs.Common.{◌+◌, ◌-◌, length}
use Rattle.awk_kinds.specs.support.Search.{unmarked}
use Rattle.awk_kinds.proofs.Searching.{Searching}
use Rattle.awk_kinds.proofs.reach.reached.Given as goal

abbrev pub invariant-loop-done : goal.invariant-loop-done
invariant-loop-done l = Searching l.count l.first l.edges l.search l.done

abbrev pub decreases-loop-done : goal.decreases-loop-done
decreases-loop-done l = (unmarked l.search.marks.items + length l.search.found.items) - l.done
