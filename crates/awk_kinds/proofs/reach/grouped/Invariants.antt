use Rattle.std.proofs.Common.{[], take}
use Rattle.awk_kinds.specs.support.Search.{Groups, rows_of}
use Rattle.awk_kinds.proofs.reach.grouped.Given as goal

abbrev pub invariant-loop : goal.invariant-loop
invariant-loop l = Groups l.counter [] (rows_of l.groups.items)

abbrev pub invariant-loop-front : goal.invariant-loop-front
invariant-loop-front l = Groups l.count (take l.front-index l.edges) (rows_of l.groups.items)
