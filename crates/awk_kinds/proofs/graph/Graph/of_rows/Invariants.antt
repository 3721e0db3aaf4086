use Rattle.std.proofs.Common.{map, take}
use Rattle.awk_kinds.specs.support.Graph.{FollowsUses, global_use}
use Rattle.awk_kinds.proofs.graph.Graph.of_rows.Given as goal

abbrev pub invariant-loop-row : goal.invariant-loop-row
invariant-loop-row l = FollowsUses l.functions (map (λ row. global_use row.0.now) (take l.row-index l.rows)) l.graph
