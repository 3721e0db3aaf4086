use Rattle.std.proofs.Common.{◌++◌, take}
use Rattle.awk_kinds.specs.support.Graph.{FollowsUses, special_uses}
use Rattle.awk_kinds.proofs.graph.Graph.of_uses.Given as goal

abbrev pub invariant-loop-array : goal.invariant-loop-array
invariant-loop-array l = FollowsUses l.functions (special_uses ++ take l.array-index l.uses) l.graph
